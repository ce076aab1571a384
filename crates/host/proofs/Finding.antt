-- What `find` over the numbers below n gives: the first that passes. Assumes nothing.
use Prim.Native.Nat.{ℕ, ◌≤◌, ◌<◌}
use mathlib.Core.Path.{◌≡◌, sym}
use mathlib.Core.Bool.{Bool, true, false}
use native.Mathlib.Omega.{arith}
use denote.Param.Members.{Mut}
use denote.Ref.{Bor}
use Rattle.std.specs.Prelude.{Option, Some, None}
use Rattle.std.specs.Fn.{CalledAt}
use Rattle.std.specs.Option.{MatchOption}
use Rattle.std.specs.Iterator.{FindsItem}
use Rattle.std.specs.declared.ops.Range.{Range}
use Rattle.std.proofs.iter.Yields.{nat_range_steps}
use Rattle.std.proofs.lemmas.Iterator.{first_from_Range}
use Rattle.host.specs.First.{first}
use Rattle.host.proofs.Firsts.{first_none, first_is}

module _ (p : ℕ → Bool) (n : ℕ) where
  -- no number below n passes, or i does and none below it
  found : (r : Option ℕ)
      → MatchOption r ((k : ℕ) → 0 ≤ k → k < n → p k ≡ false) (λ i. (0 ≤ i) × (i < n) × (p i ≡ true) × ((k : ℕ) → 0 ≤ k → k < i → p k ≡ false))
      → r ≡ first p n
  found None f = sym (first_none p n (λ k l. f k (omega arith) l))
  found (Some i) (_, l, t, f) = sym (first_is p i n (first_none p i (λ k m. f k (omega arith) m)) t l)

-- a closure that changes nothing and answers as the test p does finds the first number below n that passes p
pub find_first : {F : Type 0} {g : Mut F (Bor ℕ × Unit {0}) Bool} (p : ℕ → Bool) (n : ℕ) (u : Range ℕ) (f : F) (r : Option ℕ)
    → FindsItem nat_range_steps g (record { start = 0; end = n }) f r u
    → ((x : ℕ) (b : Bool) (q : F) → CalledAt g f x b q → (q ≡ f) × (b ≡ p x))
    → r ≡ first p n
find_first p n u f r ran pure =
    found p n r (first_from_Range _ u f r (λ x. p x ≡ true) (λ x. p x ≡ false) ran (λ x q k. sym (pure x true q k).1)
    (λ x q k. let (same, e) = pure x false q k in (same, sym e)))
