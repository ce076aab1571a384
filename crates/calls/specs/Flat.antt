-- An answer without an enum, for callers in other languages: the refusal's number, 0 where there is none, and beside it what the call gives.
-- Document 01, "Refusal numbers": "a refused call returns its number only": what stands beside a refusal is blank.
use Rattle.std.specs.Prelude.{ℕ}
use Rattle.answer.specs.Answer.{Answer, refused, accepted, number_of}

-- what an answer gives, or the blank
abbrev pub given_or : {A : Type 0} → A → Answer A → A
given_or blank (refused k) = blank
given_or blank (accepted a) = a

abbrev pub flat : {A : Type 0} → A → Answer A → ℕ × A
flat blank answer = (number_of answer, given_or blank answer)

-- the same of a call on lent memory, with what it leaves there
abbrev pub flat_lent : {A M : Type 0} → A → Answer A × M → (ℕ × A) × M
flat_lent blank (answer, after) = (flat blank answer, after)

-- an answer that gives what is made of another's
abbrev pub giving : {A B : Type 0} → (A → B) → Answer A → Answer B
giving f (refused k) = refused k
giving f (accepted a) = accepted (f a)
