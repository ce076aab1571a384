-- The size of a set word is the number of its members, over any width. Assumes nothing.
use Prim.Native.Nat.{ℕ, zero, suc, ◌+◌, ◌/◌, ◌%◌, ◌^◌, ◌≤◌, ◌<◌}
use mathlib.Core.Path.{◌≡◌, refl, ap, ap₂, ◌∙◌}
use mathlib.Core.Bool.{false}
use native.Mathlib.Nat.{pow-suc}
use native.Mathlib.Omega.{arith}
use lib.Arith.{lt-one}
use lib.Count.{ones, ones_step}
use lib.Dec.{eqb}
use Rattle.std.proofs.lemmas.Nat.Bits.{bit_at-suc, bit_at_above}
use Rattle.quorum.specs.Count.{one, count}
use Rattle.quorum.specs.Sets.{member, size}
use Rattle.quorum.proofs.Counting.{count_same}

-- the members but host 0 are those of the halved word, each a number lower
pub member_suc : (w j : ℕ) → member (w / 2) j ≡ member w (suc j)
unfolding member
member_suc w j = rw (bit_at-suc w j) refl

bit : (x : ℕ) → x < 2 → x ≡ one (eqb x 1)
bit zero h = refl
bit (suc zero) h = refl
bit (suc (suc x)) h = absurd (omega arith)

member_zero : (w : ℕ) → w % 2 ≡ one (member w 0)
unfolding member
member_zero w =
    let e : w % 2 ≡ w / 1 % 2 = omega arith in
    bit (w % 2) (omega arith) ∙ ap (λ (x : ℕ). one (eqb x 1)) e

-- the empty set has none
pub ones_zero : ones 0 ≡ 0
unfolding ones
ones_zero = refl

pub size_counts : (n w : ℕ) → w < 2 ^ n → size w ≡ count n (member w)
unfolding count
size_counts zero w h = ap ones (lt-one h) ∙ ones_zero
size_counts (suc n) w h =
    let half : w / 2 < 2 ^ n = omega (arith, rw pow-suc at h) in
    ones_step w ∙ ap₂ ◌+◌ (member_zero w) (size_counts n (w / 2) half ∙ count_same n (member (w / 2)) (λ j. member w (suc j)) (member_suc w))

-- a word has no member past its last bit
pub no_member : (n w j : ℕ) → w < 2 ^ n → n ≤ j → false ≡ member w j
unfolding member
no_member n w j l m = rw (bit_at_above w n j l m) refl
