-- The words that pass a test, picked from all words in order and counted, are as many as `count` says. Assumes nothing.
use Prim.Native.Nat.{ℕ, zero, suc, ◌+◌}
use mathlib.Core.Path.{◌≡◌, refl, ap, ap₂, ◌∙◌}
use mathlib.Core.Bool.{Bool, true, false, cond}
use mathlib.Core.List.{List, ◌∷◌}
use native.Mathlib.Omega.{arith}
use lib.ListN.{length}
use Rattle.std.specs.List.{range_with_len, filter}
use Rattle.quorum.specs.Count.{one, count}
use Rattle.quorum.proofs.Counting.{count_same}

picked : (b : Bool) (x : ℕ) (xs : List ℕ) → length (cond b (x ∷ xs) xs) ≡ one b + length xs
picked true x xs = omega arith
picked false x xs = omega arith

from : (p : ℕ → Bool) (a n : ℕ) → length (filter p (range_with_len a n)) ≡ count n (λ x. p (a + x))
unfolding count
from p a zero = refl
from p a (suc n) =
    let first : p a ≡ p (a + 0) = ap p (omega arith) in
    picked (p a) a (filter p (range_with_len (a + 1) n))
    ∙ ap₂ ◌+◌ (ap one first) (from p (a + 1) n ∙ count_same n (λ x. p (a + 1 + x)) (λ x. p (a + suc x)) (λ x. ap p (omega arith)))

pub tallied : (p : ℕ → Bool) (n : ℕ) → length (filter p (range_with_len 0 n)) ≡ count n p
tallied p n = from p 0 n ∙ count_same n (λ x. p (0 + x)) p (λ x. ap p (omega arith))
