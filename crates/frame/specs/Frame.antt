-- A frame's sixteen bits: what unpacking and packing answer, for every word and for every frame.
-- Document 01, "Frames and run files" (the layout) and "Refusal numbers" (7, 8, 9 and 5, and their order).
use Rattle.std.specs.Prelude.{ℕ, ◌+◌, ◌-◌, ◌≡◌, Bool, ◌&&◌, ◌||◌, List, [], ◌∷◌, ◌++◌, ltb, eqb, get_or, Result}
use Rattle.answer.specs.Answer.{Answer, Guard, ◌when◌, guarded, says}
use Rattle.answer.specs.declared.Refusal.{Refusal}
use Rattle.frame.specs.Layout.{fields, joined}
use Rattle.frame.specs.declared.Frame.{Frame}

-- "version 1 bit (0); kind 1 (0 VAL, 1 AUX); round 5; phase minus 1, 1 bit; stage 1; value 2 (0, 1, 2 for "neither", 3 unused); sender 5"
abbrev pub widths : List ℕ
widths = 1 ∷ 1 ∷ 5 ∷ 1 ∷ 1 ∷ 2 ∷ 5 ∷ []

-- field i of a word, counted from 0 in that order
abbrev pub field : ℕ → ℕ → ℕ
field w i = get_or (fields widths w) i 0

abbrev pub version : ℕ → ℕ
version w = field w 0

-- what the other fields say, whatever they hold
unfoldable pub frame_of : ℕ → Frame
frame_of w = record {
  kind = field w 1;
  round = field w 2;
  phase = field w 3 + 1;
  stage = field w 4;
  value = field w 5;
  sender = field w 6;
}

-- a frame's fields in the layout's order, under version 0
abbrev pub parts : Frame → List ℕ
parts f = 0 ∷ f.kind ∷ f.round ∷ (f.phase - 1) ∷ f.stage ∷ f.value ∷ f.sender ∷ []

-- the word with these fields
unfoldable pub word_of : Frame → ℕ
word_of f = joined widths (parts f)

-- 8: "round not 1..16"
abbrev pub bad_round : ℕ → Bool
bad_round round = eqb round 0 || ltb 16 round

-- 9: "value 3, or neither in stage 0"; a frame that is to be packed may hold any number, and all above 2 are refused as 3 is
abbrev pub bad_value : ℕ → ℕ → Bool
bad_value value stage = ltb 2 value || (eqb value 2 && eqb stage 0)

-- 5: "a kind, phase or stage that the layout doesn't name"
abbrev pub unnamed : Frame → Bool
unnamed f = ltb 1 f.kind || eqb f.phase 0 || ltb 2 f.phase || ltb 1 f.stage

-- packing's other 5: "a sender too large for its bits in the layout (here above 31)"
abbrev pub too_large : Frame → Bool
too_large f = ltb 31 f.sender

-- 8, then 9
abbrev pub vote_guards : Frame → List Guard
vote_guards f = (8 when bad_round f.round) ∷ (9 when bad_value f.value f.stage) ∷ []

-- "Unpacking a frame checks 7, 8, 9"
abbrev pub unpack_guards : ℕ → List Guard
unpack_guards w = (7 when eqb (version w) 1) ∷ vote_guards (frame_of w)

unfoldable pub unpacking : ℕ → Answer Frame
unpacking w = guarded (unpack_guards w) (frame_of w)

-- what a frame can't say to anyone, whoever sends it: "8, then 9, by the table's conditions, then 5"
abbrev pub frame_guards : Frame → List Guard
frame_guards f = vote_guards f ++ (5 when unnamed f) ∷ []

unfoldable pub judging : Frame → Answer Unit
judging f = guarded (frame_guards f) tt

-- "Packing gives 8, then 9, by the table's conditions, then 5"
abbrev pub pack_guards : Frame → List Guard
pack_guards f = frame_guards f ++ (5 when too_large f) ∷ []

unfoldable pub packing : Frame → Answer ℕ
packing f = guarded (pack_guards f) (word_of f)

-- the promise of `unpack`
abbrev pub Unpacks : ℕ → Result Frame Refusal → Type 0
Unpacks word result = says result ≡ unpacking word

-- the promise of `pack`
abbrev pub Packs : Frame → Result ℕ Refusal → Type 0
Packs frame result = says result ≡ packing frame

-- the promise of `check`
abbrev pub Judges : Frame → Result Unit Refusal → Type 0
Judges frame result = says result ≡ judging frame
