-- What a call answers. Document 01, "Refusal numbers": a number is "given exactly when" its condition holds, the conditions of a call
-- are asked in the order stated there, and "a refused call returns its number only".
use Rattle.std.specs.Prelude.{ℕ, ◌≡◌, Bool, cond, List, [], ◌∷◌, ◌++◌, Result, Ok, Err, codes, decimal}
use Rattle.answer.specs.declared.Refusal.{Refusal}

pub data Answer (A : Type 0) : Type 0 where
  refused : ℕ → Answer A
  accepted : A → Answer A

-- the number of a refusal, 0 where there is none
abbrev pub number_of : {A : Type 0} → Answer A → ℕ
number_of (refused k) = k
number_of (accepted a) = 0

-- a refusal number, and the condition under which it is given
infix 20 ◌when◌
pub data Guard : Type 0 where
  ◌when◌ : ℕ → Bool → Guard

-- the first guard whose condition holds gives its number; past them all, the call answers what stands behind them
abbrev pub past : {A : Type 0} → List Guard → Answer A → Answer A
past [] a = a
past ((k when b) ∷ gs) a = cond b (refused k) (past gs a)

-- past all of its guards, the call is accepted
abbrev pub guarded : {A : Type 0} → List Guard → A → Answer A
guarded gs a = past gs (accepted a)

-- an answer with what it leaves beside what it gives
abbrev pub beside : {A M : Type 0} → Answer A → M → Answer (A × M)
beside (refused k) after = refused k
beside (accepted a) after = accepted (a, after)

-- what a call on lent memory answers and leaves there. "A refused call returns its number only", and "when it refuses changes no record, no
-- table, no byte or word lent to it": it leaves what was there before
abbrev pub lent : {A M : Type 0} → M → Answer (A × M) → Answer A × M
lent before (refused k) = (refused k, before)
lent before (accepted (a, after)) = (accepted a, after)

-- the same where a first part of a call has its own answer: past it, the call answers and leaves what stands behind it
abbrev pub going_on : {A M : Type 0} → M → Answer Unit → Answer A × M → Answer A × M
going_on before (refused k) r = (refused k, before)
going_on before (accepted u) r = r

-- ---- What code returns

-- document 01's number of a refusal
abbrev pub number : Refusal → ℕ
number Refusal.Incomplete = 1
number Refusal.Hosts = 2
number Refusal.Liars = 3
number Refusal.NotZero = 4
number Refusal.Unnamed = 5
number Refusal.Liar = 6
number Refusal.Version = 7
number Refusal.Round = 8
number Refusal.Value = 9
number Refusal.Broken = 10
number Refusal.Unsent = 11
number Refusal.OtherAux = 12
number Refusal.Lent = 13

-- the answer that a result is
abbrev pub says : {A : Type 0} → Result A Refusal → Answer A
says (Ok a) = accepted a
says (Err r) = refused (number r)

-- how a refusal is printed: "refused C"
abbrev pub line_of : Refusal → List ℕ
line_of refusal = codes "refused " ++ decimal (number refusal)

-- the promise of a refusal's conversion to its number
abbrev pub NumberOf : Refusal → ℕ → Type 0
NumberOf refusal n = n ≡ number refusal
