-- What stands at a place of the bytes is the first of their pieces from there on. Assumes nothing.
use Prim.Native.Nat.{ℕ, suc, ◌+◌, ◌-◌, ◌≤◌, ◌<◌}
use mathlib.Core.Path.{◌≡◌, refl, sym, ap, ◌∙◌}
use mathlib.Core.List.{List, [], ◌∷◌}
use native.Mathlib.Omega.{arith}
use native.Mathlib.Nat.{sub-zero, add-zero}
use borrow.Author.Tests.{ne_eqb, le-ltb}
use lib.ListN.{length, take, drop, length-drop}
use lib.Seq.{get_or-drop, drop-drop}
use Rattle.answer.specs.Answer.{Answer, refused, accepted}
use Rattle.answer.proofs.Guards.{not_both}
use Rattle.file.specs.Layouts.{three, event_of}
use Rattle.file.specs.Reading.{nothing, something, event_in, event_at}
use Rattle.file.specs.declared.Event.{Event}
use Rattle.run.specs.Playing.{pieces, host_in}

-- what is seen at a place is seen at the start of the bytes from there on
from_here : (bytes : List ℕ) (at : ℕ) → event_at bytes at ≡ event_at (drop at bytes) 0
unfolding event_at event_in
from_here bytes at = simp (length-drop, sub-zero, get_or-drop, add-zero)

not_nothing : {x : Answer Event} → something x ≡ nothing → ⊥
not_nothing e = let z : ◌≡◌ {A = ℕ} 0 1 = cc in omega arith

same_sight : {x y : Answer Event} → something x ≡ something y → x ≡ y
same_sight e = cc

-- three bytes and more hold an event
whole : (a b c : ℕ) (rest : List ℕ) → event_at (a ∷ b ∷ c ∷ rest) 0 ≡ something (accepted (event_of (three a b c)))
unfolding event_at event_in
whole a b c rest =
    let n : (suc (suc (suc (length rest))) - 0 ≡ 0 → ⊥) = λ e. omega arith in
    let l : 3 ≤ suc (suc (suc (length rest))) - 0 = omega arith in
    simp (ne_eqb _ _ n, le-ltb _ _ l)

shown_nothing : (xs : List ℕ) → event_at xs 0 ≡ nothing → pieces xs ≡ []
unfolding event_at event_in pieces
shown_nothing [] e = refl
shown_nothing (a ∷ []) e = absurd (not_nothing e)
shown_nothing (a ∷ b ∷ []) e = absurd (not_nothing e)
shown_nothing (a ∷ b ∷ c ∷ rest) e = absurd (not_nothing (sym (whole a b c rest) ∙ e))

shown_piece : (xs : List ℕ) {k : ℕ} → event_at xs 0 ≡ something (refused k) → (pieces xs ≡ xs ∷ []) × (event_in xs 0 ≡ refused k)
unfolding event_at event_in pieces
shown_piece [] e = absurd (not_nothing (sym e))
shown_piece (a ∷ []) e = (refl, same_sight e)
shown_piece (a ∷ b ∷ []) e = (refl, same_sight e)
shown_piece (a ∷ b ∷ c ∷ rest) e = absurd (not_both refl (same_sight (sym (whole a b c rest) ∙ e)))

shown_event : (xs : List ℕ) {e : Event} → event_at xs 0 ≡ something (accepted e)
    → (pieces xs ≡ take 3 xs ∷ pieces (drop 3 xs)) × (event_in (take 3 xs) 0 ≡ accepted e) × (host_in (take 3 xs) ≡ e.host) × (e.host < 32) × (length (take 3 xs) ≡ 3)
unfolding event_at event_in pieces
shown_event [] {e} q = absurd (not_nothing (sym q))
shown_event (a ∷ []) {e} q = absurd (not_both (same_sight q) refl)
shown_event (a ∷ b ∷ []) {e} q = absurd (not_both (same_sight q) refl)
shown_event (a ∷ b ∷ c ∷ rest) {e} q =
    let s = same_sight (sym (whole a b c rest) ∙ q) in
    let same : event_of (three a b c) ≡ e = cc in
    let h = ap (λ (e : Event). e.host) same in
    (refl, s, h, omega arith, refl)

-- ---- At a place

pub sees_nothing : (bytes : List ℕ) (at : ℕ) → event_at bytes at ≡ nothing → pieces (drop at bytes) ≡ []
sees_nothing bytes at e = shown_nothing (drop at bytes) (sym (from_here bytes at) ∙ e)

pub sees_piece : (bytes : List ℕ) (at : ℕ) {k : ℕ} → event_at bytes at ≡ something (refused k)
    → (pieces (drop at bytes) ≡ drop at bytes ∷ []) × (event_in (drop at bytes) 0 ≡ refused k)
sees_piece bytes at e = shown_piece (drop at bytes) (sym (from_here bytes at) ∙ e)

pub sees_event : (bytes : List ℕ) (at : ℕ) {e : Event} → event_at bytes at ≡ something (accepted e)
    → (pieces (drop at bytes) ≡ take 3 (drop at bytes) ∷ pieces (drop (at + 3) bytes)) × (event_in (take 3 (drop at bytes)) 0 ≡ accepted e)
    × (host_in (take 3 (drop at bytes)) ≡ e.host) × (e.host < 32) × (length (take 3 (drop at bytes)) ≡ 3)
sees_event bytes at e =
    let (p, q, h, i, l) = shown_event (drop at bytes) (sym (from_here bytes at) ∙ e) in
    (p ∙ ap (λ xs. take 3 (drop at bytes) ∷ pieces xs) (drop-drop 3 at bytes), q, h, i, l)
