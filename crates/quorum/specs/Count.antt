-- How many of the hosts below n pass a test.
use Rattle.std.specs.Prelude.{ℕ, zero, suc, ◌+◌, Bool, true, false}

abbrev pub one : Bool → ℕ
one true = 1
one false = 0

-- counted from host 0 up
unfoldable pub count : ℕ → (ℕ → Bool) → ℕ
count zero p = 0
count (suc n) p = one (p 0) + count n (λ x. p (suc x))
