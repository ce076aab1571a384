-- "Either way back gives the original" (demand 2). Assumes nothing.
use Prim.Native.Nat.{ℕ, ◌+◌, ◌-◌, ◌^◌, ◌≤◌, ◌<◌}
use mathlib.Core.Path.{◌≡◌, refl, sym, ap, ◌∙◌}
use mathlib.Core.Bool.{false}
use mathlib.Core.List.{List}
use native.Mathlib.Omega.{arith}
use lib.Dec.{eqb}
use lib.ListN.{get_or}
use borrow.Author.Tests.{le-ltb, ne_eqb, eqb-false}
use Rattle.std.specs.Prelude.{Result, Ok}
use Rattle.answer.specs.Answer.{refused, accepted}
use Rattle.answer.specs.declared.Refusal.{Refusal}
use Rattle.answer.proofs.Guards.{clear, passes, not_both}
use Rattle.frame.specs.Layout.{total, fields, joined, Fit}
use Rattle.frame.specs.Frame.{widths, field, parts, version, frame_of, word_of, unnamed, too_large, unpack_guards, unpacking, pack_guards, packing, Unpacks, Packs}
use Rattle.frame.specs.declared.Frame.{Frame}
use Rattle.frame.proofs.Joining.{join_fields, fields_join}
use Rattle.frame.proofs.Laws.{writable}
use Rattle.frame.proofs.Unique.{unpacks_once, packs_once}

-- the parts of the frame in a word of version 0 are the word's fields
parts_of : (w : ℕ) → version w ≡ 0 → parts (frame_of w) ≡ fields widths w
unfolding frame_of
parts_of w v =
    let p : field w 3 + 1 - 1 ≡ field w 3 = omega arith in
    simp (v, p)

-- no word's fields are out of the layout
laid : (w : ℕ) → (unnamed (frame_of w) ≡ false) × (too_large (frame_of w) ≡ false)
unfolding frame_of
laid w =
    let named : unnamed (frame_of w) ≡ false =
    simp (le-ltb 1 (field w 1) (omega arith), ne_eqb (field w 3 + 1) 0 (λ z. omega arith), le-ltb 2 (field w 3 + 1) (omega arith), le-ltb 1 (field w 4) (omega arith)) in
    (named, le-ltb 31 (field w 6) (omega arith))

-- the word that a frame was unpacked from is the word that it packs to, for every word of the layout's bits
pub unpack_pack : (w : ℕ) (f : Frame) → w < 2 ^ total widths → unpacking w ≡ accepted f → packing f ≡ accepted w
unfolding unpacking packing word_of
unpack_pack w f l e =
    let ((v, (r, (n, _))), same) = clear (unpack_guards w) (frame_of w) e in
    let not-1 = eqb-false (version w) 1 v in
    let back : word_of (frame_of w) ≡ w = ap (joined widths) (parts_of w (omega arith)) ∙ join_fields widths w l in
    rw same (passes (pack_guards (frame_of w)) (word_of (frame_of w)) (r, (n, ((laid w).0, ((laid w).1, tt)))) ∙ ap accepted back)

-- the fields of a frame's word are the frame's own
frame_of_lem : (f : Frame) → 1 ≤ f.phase → Fit widths (parts f) → (frame_of (word_of f) ≡ f) × (version (word_of f) ≡ 0)
unfolding frame_of word_of
frame_of_lem f p h =
    let e = fields_join widths (parts f) h in
    let at : (i : ℕ) → field (word_of f) i ≡ get_or (parts f) i 0 = λ i. ap (λ (xs : List ℕ). get_or xs i 0) e in
    let back : f.phase - 1 + 1 ≡ f.phase = omega arith in
    (simp (at 1, at 2, at 3, at 4, at 5, at 6, back), at 0)

-- the frame that a word was packed from is the frame that it unpacks to
pub pack_unpack : (f : Frame) (w : ℕ) → packing f ≡ accepted w → unpacking w ≡ accepted f
unfolding unpacking packing
pack_unpack f w e =
    let ((r, (n, (u, (l, _)))), same) = clear (pack_guards f) (word_of f) e in
    let (p, h) = writable f r n u l in
    let (back, v) = frame_of_lem f p h in
    let first : eqb (version (word_of f)) 1 ≡ false = ap (λ (x : ℕ). eqb x 1) v in
    rw same (passes (unpack_guards (word_of f)) (frame_of (word_of f)) (first, (rw back r, (rw back n, tt))) ∙ ap accepted back)

-- so what is accepted one way is never refused the other
pub word_stands : (w : ℕ) (f : Frame) (k : ℕ) → w < 2 ^ total widths → unpacking w ≡ accepted f → packing f ≡ refused k → ⊥
word_stands w f k l e = not_both (unpack_pack w f l e)

pub frame_stands : (f : Frame) (w k : ℕ) → packing f ≡ accepted w → unpacking w ≡ refused k → ⊥
frame_stands f w k e = not_both (pack_unpack f w e)

-- the same of the calls themselves, by their promises: what `pack` answers for a frame that `unpack` answered, and the other way
pub packs_back : (w : ℕ) (f : Frame) (b : Result ℕ Refusal) → w < 2 ^ total widths → Unpacks w (Ok f) → Packs f b → b ≡ Ok w
packs_back w f b l u p = packs_once f b (Ok w) p (sym (unpack_pack w f l (sym u)))

pub unpacks_back : (f : Frame) (w : ℕ) (a : Result Frame Refusal) → Packs f (Ok w) → Unpacks w a → a ≡ Ok f
unpacks_back f w a p u = unpacks_once w a (Ok f) u (sym (pack_unpack f w (sym p)))

-- "A frame is sixteen bits"
pub sixteen : total widths ≡ 16
sixteen = refl
