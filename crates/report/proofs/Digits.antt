-- Laws of decimal numbers. Assumes nothing.
use Prim.Native.Nat.{ℕ, zero, suc, ◌+◌, ◌/◌, ◌%◌, ◌^◌, ◌≤◌, ◌<◌}
use mathlib.Core.Path.{◌≡◌, refl, sym, ap, ◌∙◌}
use mathlib.Core.Bool.{Bool, true, false}
use mathlib.Core.List.{[], ◌∷◌, ◌++◌}
use native.Mathlib.Decide.{dec_lt}
use native.Mathlib.Nat.{pow-suc}
use native.Mathlib.Omega.{arith}
use lib.Dec.{ltb}
use lib.ListN.{length, length-append}
use borrow.Author.Tests.{lt-ltb, le-ltb, ltb-false}
use Rattle.std.specs.Fmt.{decimal as printed_decimal}
use Rattle.std.proofs.lemmas.Fmt.{decimal_by_steps_wide}
use Rattle.report.specs.Text.{digit, digits_in, decimal}

-- digits to spare change nothing
same : (j k n : ℕ) → n < j → n < k → digits_in j n ≡ digits_in k n
unfolding digits_in
same zero k n p q = absurd (omega arith)
same (suc j) zero n p q = absurd (omega arith)
same (suc j) (suc k) n p q = go (ltb n 10) refl (same j k (n / 10))
  where
    go : (b : Bool) → ltb n 10 ≡ b → (n / 10 < j → n / 10 < k → digits_in j (n / 10) ≡ digits_in k (n / 10)) → digits_in (suc j) n ≡ digits_in (suc k) n
    go true e f = rw e
    go false e f = let l = ltb-false n 10 e in rw (e, f (omega arith) (omega arith))

-- one digit
pub decimal_one : (n : ℕ) → n < 10 → decimal n ≡ digit n ∷ []
unfolding decimal digits_in
decimal_one n l = rw (lt-ltb n 10 l)

-- the higher digits, then the last
pub decimal_more : (n : ℕ) → 10 ≤ n → decimal n ≡ decimal (n / 10) ++ digit (n % 10) ∷ []
unfolding decimal digits_in
decimal_more n l = rw (le-ltb n 10 l, same n (suc (n / 10)) (n / 10) (omega arith) (omega arith))

-- std's decimal, which `itoa` prints, is the same: as far as std's goes, which is at most 64 digits
pub printed : (n : ℕ) → n < 10 ^ 64 → printed_decimal n ≡ decimal n
printed = decimal_by_steps_wide (λ n ds. ds ≡ decimal n) (λ n l. sym (decimal_one n l)) (λ n ds l e. rw (e, decimal_more n l) refl)

-- how many digits a number takes: one, or one more than its tenth
pub length_one : (n : ℕ) → n < 10 → length (decimal n) ≡ 1
length_one n l = ap length (decimal_one n l)

pub length_more : (n : ℕ) → 10 ≤ n → length (decimal n) ≡ length (decimal (n / 10)) + 1
length_more n l = ap length (decimal_more n l) ∙ length-append (decimal (n / 10)) (digit (n % 10) ∷ [])

-- a number below 10, 100, 1000 .. takes at most 1, 2, 3 .. digits
pub few : (k n : ℕ) → n < 10 ^ suc k → length (decimal n) ≤ suc k
few zero n l = omega (arith, length_one n l)
few (suc k) n l = go (dec_lt n 10) (λ h. few k (n / 10) h)
  where
    go : Dec (n < 10) → (n / 10 < 10 ^ suc k → length (decimal (n / 10)) ≤ suc k) → length (decimal n) ≤ suc (suc k)
    go (yes s) f = omega (arith, length_one n s)
    go (no g) f = omega (arith, length_more n (omega arith), f (omega (arith, rw pow-suc at l)))

-- so a host's number takes at most two, a byte three, and a word of 32 bits ten
pub two_digits : (n : ℕ) → n < 32 → length (decimal n) ≤ 2
two_digits n l = few 1 n (omega arith)

pub three_digits : (n : ℕ) → n < 256 → length (decimal n) ≤ 3
three_digits n l = few 2 n (omega arith)

pub ten_digits : (n : ℕ) → n < 4294967296 → length (decimal n) ≤ 10
ten_digits n l = few 9 n (omega arith)
