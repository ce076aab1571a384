-- The definitions held against document 01's printed lines, and against what a decimal number is. Assumes nothing.
use Prim.Native.Nat.{ℕ, zero, suc, ◌+◌, ◌-◌, ◌*◌, ◌/◌, ◌%◌, ◌≤◌, ◌<◌}
use mathlib.Core.Path.{◌≡◌, refl, sym, ◌∙◌}
use mathlib.Core.List.{List, [], ◌∷◌, ◌++◌}
use native.Mathlib.Decide.{dec_lt}
use native.Mathlib.Omega.{arith}
use lib.ListN.{length, length-append, get_or, get_or-append}
use Rattle.host.specs.declared.Host.{Host}
use Rattle.report.specs.Text.{text, digit, digits_in, decimal}
use Rattle.report.specs.Lines.{event_line, totals_line, host_line}
use Rattle.report.proofs.Digits.{decimal_one, decimal_more}

-- ---- Document 01's example, line by line
pub printed_event : event_line 5 11 ≡ text "event 5 refused 11\n"
unfolding text digits_in decimal event_line
printed_event = refl

abbrev pub example : ℕ → Host
example sent = record {
  round = 1;
  phase = 1;
  stage = 0;
  own = 1;
  est = 1;
  decision = 2;
  sent = sent;
  standing = 0;
  coins = 0;
}

pub printed_host_0 : host_line 0 (example 2) ≡ text "host 0 honest round 1 phase 1 stage 0 est 1 decided - sent 2\n"
unfolding text digits_in decimal host_line
printed_host_0 = refl

pub printed_host_1 : host_line 1 (example 0) ≡ text "host 1 honest round 1 phase 1 stage 0 est 1 decided - sent 0\n"
unfolding text digits_in decimal host_line
printed_host_1 = refl

pub printed_totals : totals_line 5 1 ≡ text "events 5 refused 1\n"
unfolding text digits_in decimal totals_line
printed_totals = refl

-- ---- A decimal number

-- the number that digits say, read from the front behind those already read
pub value : ℕ → List ℕ → ℕ
value before [] = before
value before (d ∷ ds) = value (before * 10 + (d - 48)) ds

value_append : (before : ℕ) (a b : List ℕ) → value before (a ++ b) ≡ value (value before a) b
unfolding value
value_append before [] b = refl
value_append before (d ∷ a) b = value_append (before * 10 + (d - 48)) a b

value_go : (k n : ℕ) → n < k → value 0 (decimal n) ≡ n
unfolding value
value_go zero n l = absurd (omega arith)
value_go (suc k) n l = go (dec_lt n 10) (λ h. value_go k (n / 10) h)
  where
    go : Dec (n < 10) → (n / 10 < k → value 0 (decimal (n / 10)) ≡ n / 10) → value 0 (decimal n) ≡ n
    go (yes s) f = rw (decimal_one n s) (omega arith)
    go (no g) f = rw (decimal_more n (omega arith), value_append 0 (decimal (n / 10)) (digit (n % 10) ∷ []), f (omega arith)) (omega arith)

-- a number's digits say that number
pub decimal_value : (n : ℕ) → value 0 (decimal n) ≡ n
decimal_value n = value_go (suc n) n (omega arith)

-- it has at least one digit
pub some_digit : (n : ℕ) → 0 < length (decimal n)
some_digit n = go (dec_lt n 10)
  where
    go : Dec (n < 10) → 0 < length (decimal n)
    go (yes s) = rw (decimal_one n s) (omega arith)
    go (no g) = rw (decimal_more n (omega arith), length-append (decimal (n / 10)) (digit (n % 10) ∷ [])) (omega arith)

zero_go : (k n : ℕ) → n < k → get_or (decimal n) 0 0 ≡ digit 0 → n ≡ 0
zero_go zero n l e = absurd (omega arith)
zero_go (suc k) n l e = go (dec_lt n 10) (λ h q. zero_go k (n / 10) h q)
  where
    go : Dec (n < 10) → (n / 10 < k → get_or (decimal (n / 10)) 0 0 ≡ digit 0 → n / 10 ≡ 0) → n ≡ 0
    go (yes s) f = let d = rw (decimal_one n s) at e in omega arith
    go (no g) f =
        let d = sym (get_or-append (decimal (n / 10)) (digit (n % 10) ∷ []) 0 0 (some_digit (n / 10))) ∙ rw (decimal_more n (omega arith)) at e in
        let z = f (omega arith) d in
        omega arith

-- only 0 begins with the digit 0
pub no_zero_first : (n : ℕ) → get_or (decimal n) 0 0 ≡ digit 0 → n ≡ 0
no_zero_first n = zero_go (suc n) n (omega arith)

-- its bytes are digits
pub AllDigits : List ℕ → Type 0
AllDigits [] = Unit
AllDigits (d ∷ ds) = ((digit 0 ≤ d) × (d ≤ digit 9)) × AllDigits ds

digits_append : (a b : List ℕ) → AllDigits a → AllDigits b → AllDigits (a ++ b)
unfolding AllDigits
digits_append [] b p q = q
digits_append (d ∷ a) b (p, ps) q = (p, digits_append a b ps q)

digits_go : (k n : ℕ) → n < k → AllDigits (decimal n)
unfolding AllDigits
digits_go zero n l = absurd (omega arith)
digits_go (suc k) n l = go (dec_lt n 10) (λ h. digits_go k (n / 10) h)
  where
    go : Dec (n < 10) → (n / 10 < k → AllDigits (decimal (n / 10))) → AllDigits (decimal n)
    go (yes s) f = rw (decimal_one n s) (omega arith, tt)
    go (no g) f = rw (decimal_more n (omega arith)) (digits_append (decimal (n / 10)) (digit (n % 10) ∷ []) (f (omega arith)) (omega arith, tt))

pub all_digits : (n : ℕ) → AllDigits (decimal n)
all_digits n = digits_go (suc n) n (omega arith)
