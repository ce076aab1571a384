-- What reading a run file answers, for every byte string. Document 01, "Refusal numbers": "Header: 1, 2, 3, 4; then per host record 1, 4. Event:
-- 1, 4, 5 (host)".
use Rattle.std.specs.Prelude.{ℕ, ◌-◌, ◌≡◌, Bool, cond, ◌&&◌, ◌||◌, not, List, [], ◌∷◌, ◌++◌, ltb, leb, eqb, length, get_or, Option, Some, None, Result}
use Rattle.answer.specs.Answer.{Answer, Guard, ◌when◌, guarded, says}
use Rattle.answer.specs.declared.Refusal.{Refusal}
use Rattle.quorum.specs.World.{world_guards}
use Rattle.quorum.specs.declared.World.{World}
use Rattle.host.specs.declared.Host.{Host}
use Rattle.file.specs.Layouts.{two, three_at, header_world, header_spare, honest, record_spare, first_host, event_of}
use Rattle.file.specs.declared.Event.{Event}

-- how many bytes stand from a place on
abbrev pub left_from : List ℕ → ℕ → ℕ
left_from bytes at = length bytes - at

-- ---- The header

abbrev pub header_word : List ℕ → ℕ
header_word bytes = two (get_or bytes 0 0) (get_or bytes 1 0)

abbrev pub header_guards : List ℕ → List Guard
header_guards bytes =
    (1 when ltb (length bytes) 2) ∷ world_guards (header_world (header_word bytes)) ++ (4 when not (eqb (header_spare (header_word bytes)) 0)) ∷ []

unfoldable pub heading : List ℕ → Answer World
heading bytes = guarded (header_guards bytes) (header_world (header_word bytes))

-- ---- A host record

-- 4: "a spare bit set .. a liar's record .. not zero"
abbrev pub bad_record : ℕ → Bool
bad_record number = not (eqb (record_spare number) 0) || (eqb (honest number) 0 && not (eqb number 0))

abbrev pub record_guards : List ℕ → ℕ → List Guard
record_guards bytes at = (1 when ltb (left_from bytes at) 3) ∷ (4 when bad_record (three_at bytes at)) ∷ []

unfoldable pub enrolling : List ℕ → ℕ → Answer Host
enrolling bytes at = guarded (record_guards bytes at) (first_host (three_at bytes at))

-- ---- An event

-- 1: "last event incomplete"
abbrev pub piece_guards : List ℕ → ℕ → List Guard
piece_guards bytes at = (1 when ltb (left_from bytes at) 3) ∷ []

unfoldable pub event_in : List ℕ → ℕ → Answer Event
event_in bytes at = guarded (piece_guards bytes at) (event_of (three_at bytes at))

-- what stands at a place: nothing, or an event, refused where the bytes end within it
pub data Sight : Type 0 where
  nothing : Sight
  something : Answer Event → Sight

unfoldable pub event_at : List ℕ → ℕ → Sight
event_at bytes at = cond (eqb (left_from bytes at) 0) nothing (something (event_in bytes at))

-- 4: "a spare bit set, event kind 1 or 3, .. a turn's frame not zero"
abbrev pub bad_event : Event → Bool
bad_event e = (not (eqb e.kind 0) && not (eqb e.kind 2)) || not (eqb e.spare 0) || (eqb e.kind 2 && not (eqb e.word 0))

-- 4, then 5: "host .. number ≥ n"
abbrev pub event_guards : Event → World → List Guard
event_guards e w = (4 when bad_event e) ∷ (5 when leb w.n e.host) ∷ []

unfoldable pub allowing : Event → World → Answer Unit
allowing e w = guarded (event_guards e w) tt

-- the sight that a result is, or none
abbrev pub seen_says : Option (Result Event Refusal) → Sight
seen_says (Some result) = something (says result)
seen_says None = nothing

-- ---- Promises

-- the promise of `header_of`
abbrev pub Heads : List ℕ → Result World Refusal → Type 0
Heads bytes result = says result ≡ heading bytes

-- the promise of `record_at`
abbrev pub Enrols : List ℕ → ℕ → Result Host Refusal → Type 0
Enrols bytes at result = says result ≡ enrolling bytes at

-- the promise of `event_at`
abbrev pub Shows : List ℕ → ℕ → Option (Result Event Refusal) → Type 0
Shows bytes at result = seen_says result ≡ event_at bytes at

-- the promise of `check`
abbrev pub Allows : Event → World → Result Unit Refusal → Type 0
Allows event world result = says result ≡ allowing event world
