-- A promise that gives document 01's answer for each case of an enum allows one value of the enum. Assumes nothing.
use Prim.Native.Nat.{ℕ}
use mathlib.Core.Bool.{cond}
use lib.Dec.{eqb}
use mathlib.Core.Path.{◌≡◌, refl, sym, ap, ◌∙◌}
use Rattle.std.specs.Prelude.{Result, Ok, Err}
use Rattle.answer.specs.Answer.{Answer, refused, accepted, number, says}
use Rattle.answer.specs.declared.Refusal.{Refusal}

-- `says` gives the answer of each case, and the case can be told from it again
pub once : {E A : Type 0} (says : E → A) (told : A → E) → ((e : E) → told (says e) ≡ e) → (r : A) (a b : E) → says a ≡ r → says b ≡ r → a ≡ b
once says told back r a b p q = sym (back a) ∙ ap told (p ∙ sym q) ∙ back b

-- and one content of what was lent, where the promise gives both at once
pub once_lent : {E A M : Type 0} (says : E → A) (told : A → E) → ((e : E) → told (says e) ≡ e) → (r : A × M) (a b : E) (x y : M)
    → ◌≡◌ {A = A × M} (says a, x) r → ◌≡◌ {A = A × M} (says b, y) r → (a ≡ b) × (x ≡ y)
once_lent says told back r a b x y p q = (once says told back r.0 a b (ap (λ z. z.0) p) (ap (λ z. z.0) q), ap (λ z. z.1) (p ∙ sym q))

-- the refusal that has a number
pub refusal : ℕ → Refusal
refusal n =
    cond (eqb n 1) Refusal.Incomplete
    (cond (eqb n 2) Refusal.Hosts
    (cond (eqb n 3) Refusal.Liars
    (cond (eqb n 4) Refusal.NotZero
    (cond (eqb n 5) Refusal.Unnamed
    (cond (eqb n 6) Refusal.Liar
    (cond (eqb n 7) Refusal.Version
    (cond (eqb n 8) Refusal.Round
    (cond (eqb n 9) Refusal.Value
    (cond (eqb n 10) Refusal.Broken
    (cond (eqb n 11) Refusal.Unsent
    (cond (eqb n 12) Refusal.OtherAux
    Refusal.Lent)))))))))))

-- no two refusals have one number
pub refusal-number : (r : Refusal) → refusal (number r) ≡ r
unfolding refusal
refusal-number Refusal.Incomplete = refl
refusal-number Refusal.Hosts = refl
refusal-number Refusal.Liars = refl
refusal-number Refusal.NotZero = refl
refusal-number Refusal.Unnamed = refl
refusal-number Refusal.Liar = refl
refusal-number Refusal.Version = refl
refusal-number Refusal.Round = refl
refusal-number Refusal.Value = refl
refusal-number Refusal.Broken = refl
refusal-number Refusal.Unsent = refl
refusal-number Refusal.OtherAux = refl
refusal-number Refusal.Lent = refl

-- the result that is an answer
told : {A : Type 0} → Answer A → Result A Refusal
told (accepted a) = Ok a
told (refused k) = Err (refusal k)

told-says : {A : Type 0} (r : Result A Refusal) → told (says r) ≡ r
unfolding told
told-says (Ok a) = refl
told-says (Err r) = ap Err (refusal-number r)

-- so one result for each answer
pub says_once : {A : Type 0} (r : Answer A) (a b : Result A Refusal) → says a ≡ r → says b ≡ r → a ≡ b
says_once = once says told told-says

pub says_once_lent : {A M : Type 0} (r : Answer A × M) (a b : Result A Refusal) (x y : M)
    → ◌≡◌ {A = Answer A × M} (says a, x) r → ◌≡◌ {A = Answer A × M} (says b, y) r → (a ≡ b) × (x ≡ y)
says_once_lent = once_lent says told told-says
