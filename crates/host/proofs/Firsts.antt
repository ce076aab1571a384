-- What the first number that passes a test tells, and what a search for it has found so far. Assumes nothing.
use Prim.Native.Nat.{ℕ, zero, suc, ◌<◌}
use mathlib.Core.Path.{◌≡◌, refl}
use mathlib.Core.Bool.{Bool, true, false, cond, true≢false}
use mathlib.Core.Logic.{◌⊎◌, ⊎_elim}
use native.Mathlib.Nat.{eq-or-lt_of_le, le_of_suc-le-suc}
use native.Mathlib.Omega.{arith}
use Rattle.host.specs.First.{or_else, first}
use Rattle.std.specs.Prelude.{Option, Some, None}

-- the last of the numbers below n+1, or one below n
last_or : (j n : ℕ) → j < suc n → (j ≡ n) ⊎ (j < n)
last_or j n l = eq-or-lt_of_le (le_of_suc-le-suc l)

-- nowhere yet and not here: nowhere yet
pub nowhere_more : (p : ℕ → Bool) (k : ℕ) → first p k ≡ None → p k ≡ false → first p (suc k) ≡ None
unfolding first
nowhere_more p k e f = rw (e, f)

-- nowhere yet and here: this is the first
pub first_is : (p : ℕ → Bool) (k n : ℕ) → first p k ≡ None → p k ≡ true → k < n → first p n ≡ Some k
unfolding first
first_is p k zero e f l = absurd (omega arith)
first_is p k (suc n) e f l = ⊎_elim (λ q. rw (← q, e, f)) (λ m. rw (first_is p k n e f m)) (last_or k n l)

nowhere_step : (p : ℕ → Bool) (n : ℕ) (q : Option ℕ) (b : Bool) → (q ≡ None → (j : ℕ) → j < n → p j ≡ false) → p n ≡ b
    → or_else q (cond b (Some n) None) ≡ None → (j : ℕ) → j < suc n → p j ≡ false
nowhere_step p n (Some k) b f g e j l = cc
nowhere_step p n None true f g e j l = cc
nowhere_step p n None false f g e j l = ⊎_elim (λ q. rw q g) (λ m. f refl j m) (last_or j n l)

-- found nowhere: no number below n passes
pub first_nowhere : (p : ℕ → Bool) (n : ℕ) → first p n ≡ None → (j : ℕ) → j < n → p j ≡ false
unfolding first
first_nowhere p zero e j l = absurd (omega arith)
first_nowhere p (suc n) e j l = nowhere_step p n (first p n) (p n) (first_nowhere p n) refl e j l

-- no number below n passes: found nowhere
pub first_none : (p : ℕ → Bool) (n : ℕ) → ((j : ℕ) → j < n → p j ≡ false) → first p n ≡ None
unfolding first
first_none p zero f = refl
first_none p (suc n) f = nowhere_more p n (first_none p n (λ j l. f j (omega arith))) (f n (omega arith))

-- k is the first number below n that passes
abbrev IsFirst : (ℕ → Bool) → ℕ → ℕ → Type 0
IsFirst p n k = (k < n) × (p k ≡ true) × ((j : ℕ) → j < k → p j ≡ false)

at_step : (p : ℕ → Bool) (n k : ℕ) (q : Option ℕ) (b : Bool) → ((k : ℕ) → q ≡ Some k → IsFirst p n k) → first p n ≡ q → p n ≡ b
    → or_else q (cond b (Some n) None) ≡ Some k → IsFirst p (suc n) k
at_step p n k (Some m) b f a g e = let (l, t, o) = f k e in (omega arith, t, o)
at_step p n k None true f a g e =
    let s : n ≡ k = cc in
    rw (← s) (omega arith, g, first_nowhere p n a)
at_step p n k None false f a g e = absurd (true≢false (cc))

-- found at k: k is the first that passes
pub first_at : (p : ℕ → Bool) (n k : ℕ) → first p n ≡ Some k → (k < n) × (p k ≡ true) × ((j : ℕ) → j < k → p j ≡ false)
unfolding first
first_at p zero k e = absurd (true≢false (cc))
first_at p (suc n) k e = at_step p n k (first p n) (p n) (first_at p n) refl refl e
