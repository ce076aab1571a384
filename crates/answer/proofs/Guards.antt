-- What an accepted call tells of its guards, and what they tell of it. Assumes nothing.
use Prim.Native.Nat.{ℕ}
use mathlib.Core.Path.{◌≡◌, refl, sym, ap, ◌∙◌}
use mathlib.Core.Bool.{true, false}
use mathlib.Core.List.{List, [], ◌∷◌, ◌++◌}
use native.Mathlib.Omega.{arith}
use Rattle.answer.specs.Answer.{Answer, refused, accepted, Guard, ◌when◌, past, guarded, lent}

-- no answer is both
pub not_both : {A : Type 0} {a : A} {k : ℕ} {r : Answer A} → r ≡ accepted a → r ≡ refused k → ⊥
not_both p q = let z : ◌≡◌ {A = ℕ} 0 1 = cc in omega arith

-- no guard's condition holds
abbrev pub Clear : List Guard → Type 0
Clear [] = Unit
Clear ((k when b) ∷ gs) = (b ≡ false) × Clear gs

-- what passes guards passes each of them
pub past_clear : {A : Type 0} (gs : List Guard) (r : Answer A) {a : A} → past gs r ≡ accepted a → Clear gs × (r ≡ accepted a)
past_clear [] r e = (tt, e)
past_clear ((k when true) ∷ gs) r e = absurd (not_both e refl)
past_clear ((k when false) ∷ gs) r e = let (c, s) = past_clear gs r e in ((refl, c), s)

-- a call is accepted exactly where its guards are clear, and gives what stands behind them
pub clear : {A : Type 0} (gs : List Guard) (a : A) {x : A} → guarded gs a ≡ accepted x → Clear gs × (x ≡ a)
clear gs a e = let (c, s) = past_clear gs (accepted a) e in (c, cc)

pub passes : {A : Type 0} (gs : List Guard) (a : A) → Clear gs → guarded gs a ≡ accepted a
passes [] a c = refl
passes ((k when b) ∷ gs) a (e, c) = rw e (passes gs a c)

-- what guards refuse does not depend on what stands behind them
pub refuses : {A B : Type 0} (gs : List Guard) (a : A) (x : Answer B) {k : ℕ} → guarded gs a ≡ refused k → past gs x ≡ refused k
refuses [] a x e = absurd (not_both refl e)
refuses ((k when true) ∷ gs) a x e = cc
refuses ((k when false) ∷ gs) a x e = refuses gs a x e

-- nor what they let pass
pub lets : {A B : Type 0} (gs : List Guard) (a : A) (x : Answer B) {b : A} → guarded gs a ≡ accepted b → past gs x ≡ x
lets [] a x e = refl
lets ((k when true) ∷ gs) a x e = absurd (not_both e refl)
lets ((k when false) ∷ gs) a x e = lets gs a x e

-- the guards of a call may stand in two parts: what the first part refuses is refused, and past it the second part is asked
in_parts : {B : Type 0} (gs hs : List Guard) (x : Answer B) → past (gs ++ hs) x ≡ past gs (past hs x)
in_parts [] hs x = refl
in_parts ((k when true) ∷ gs) hs x = refl
in_parts ((k when false) ∷ gs) hs x = in_parts gs hs x

pub stops : {A B : Type 0} (gs hs : List Guard) (a : A) (x : Answer B) {k : ℕ} → guarded gs a ≡ refused k → past (gs ++ hs) x ≡ refused k
stops gs hs a x e = in_parts gs hs x ∙ refuses gs a (past hs x) e

pub goes_on : {A B : Type 0} (gs hs : List Guard) (a : A) (x : Answer B) {b : A} → guarded gs a ≡ accepted b → past (gs ++ hs) x ≡ past hs x
goes_on gs hs a x e = in_parts gs hs x ∙ lets gs a (past hs x) e

-- a call whose first part answers r, and that answers x past it: what `?` makes of the two
abbrev pub onward : {A B : Type 0} → Answer A → Answer B → Answer B
onward (refused k) x = refused k
onward (accepted a) x = x

-- so it is with the guards of its first part
pub past_onward : {A B : Type 0} (gs hs : List Guard) (a : A) (x : Answer B) (r : Answer A) → guarded gs a ≡ r
    → past (gs ++ hs) x ≡ onward r (past hs x)
past_onward gs hs a x (refused k) e = stops gs hs a x e
past_onward gs hs a x (accepted b) e = goes_on gs hs a x e

-- a refused call leaves what it was lent
pub leaves : {A M : Type 0} (before after : M) (a : Answer (A × M)) {k : ℕ} → lent before a ≡ (refused k, after) → after ≡ before
leaves before after (refused j) e = sym (ap (λ x. x.1) e)
leaves before after (accepted (a, m)) e = absurd (not_both refl (ap (λ x. x.0) e))

-- what an accepted call leaves is what it answers with
pub lent_accepted : {A M : Type 0} (before after : M) (r : Answer (A × M)) {a : A} → lent before r ≡ (accepted a, after) → r ≡ accepted (a, after)
lent_accepted before after (refused k) e = absurd (not_both (ap (λ x. x.0) e) refl)
lent_accepted before after (accepted (b, m)) e =
    let p = ap (λ x. x.0) e in
    let q = ap (λ x. x.1) e in
    cc

-- a call that leaves what it was lent, accepted or not
pub past_leaves : {A M : Type 0} (words : M) (gs : List Guard) (x : A) → (lent words (past gs (accepted (x, words)))).1 ≡ words
past_leaves words [] x = refl
past_leaves words ((k when true) ∷ gs) x = refl
past_leaves words ((k when false) ∷ gs) x = past_leaves words gs x
