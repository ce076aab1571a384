-- Among n hosts of which at most t lie: which sets hold an honest host, and which two share one. The threshold facts, said once, over n, t
-- and any test on hosts. A set of at least n−t is written n ≤ t + its size. Assumes nothing.
use Prim.Native.Nat.{ℕ, ◌+◌, ◌*◌, ◌≤◌, ◌<◌}
use mathlib.Core.Path.{◌≡◌}
use mathlib.Core.Bool.{Bool, true, not, ◌&&◌}
use native.Mathlib.Omega.{arith}
use Rattle.std.proofs.lemmas.Bool.{and_parts}
use Rattle.quorum.specs.Count.{count}
use Rattle.quorum.proofs.Counting.{count_and, count_not, count_some}

module _ (n t : ℕ) (honest : ℕ → Bool) (few : count n (λ x. not (honest x)) ≤ t) where
  -- at most t of any set lie
  pub few_lie : (p : ℕ → Bool) → count n p ≤ t + count n (λ x. p x && honest x)
  few_lie p = omega (arith, count_and n p honest, count_not n honest)

  -- more than t senders hold an honest one
  pub one_honest : (p : ℕ → Bool) → t < count n p → (x : ℕ) × (x < n) × (p x ≡ true) × (honest x ≡ true)
  one_honest p h =
      let (x, l, e) = count_some n (λ x. p x && honest x) (omega (arith, few_lie p)) in
      let (a, b) = and_parts (p x) (honest x) e in
      (x, l, a, b)

  -- two sets of at least n−t each share an honest host
  pub shared_honest : 3 * t < n → (p q : ℕ → Bool) → n ≤ t + count n p → n ≤ t + count n q
      → (x : ℕ) × (x < n) × (p x ≡ true) × (q x ≡ true) × (honest x ≡ true)
  shared_honest big p q hp hq =
      let (x, l, e, g) = one_honest (λ x. p x && q x) (omega (arith, count_and n p q)) in
      let (a, b) = and_parts (p x) (q x) e in
      (x, l, a, b, g)
