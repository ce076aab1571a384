-- The first number below n that passes a test.
use Rattle.std.specs.Prelude.{ℕ, zero, suc, Bool, cond}
use Rattle.std.specs.Prelude.{Option, Some, None}

-- what was found, or else what comes next
abbrev pub or_else : Option ℕ → Option ℕ → Option ℕ
or_else (Some k) next = Some k
or_else None next = next

unfoldable pub first : (ℕ → Bool) → ℕ → Option ℕ
first p zero = None
first p (suc n) = or_else (first p n) (cond (p n) (Some n) None)
