-- The calls on the printed lines for other languages.
use Rattle.std.specs.Prelude.{ℕ, ◌≡◌, List, Result}
use Rattle.answer.specs.Answer.{Answer, says}
use Rattle.answer.specs.declared.Refusal.{Refusal}
use Rattle.quorum.specs.declared.World.{World}
use Rattle.host.specs.declared.Host.{Host}
use Rattle.report.specs.Lines.{writing, room_guards, host_guards, refusal_line, event_line, host_line, totals_line}
use Rattle.calls.specs.Flat.{flat, flat_lent}
use Rattle.calls.specs.declared.lines.LineAnswer.{LineAnswer}

-- the promise of a line's conversion for C
abbrev pub LineOf : Result ℕ Refusal → LineAnswer → Type 0
LineOf line answer = ◌≡◌ {A = ℕ × ℕ} (answer.refused, answer.length) (flat 0 (says line))

-- a line's length or its refusal, and the bytes, are what a call of `report` answers and leaves
abbrev pub Written : Answer ℕ × List ℕ → LineAnswer → List ℕ → Type 0
Written line answer after = ◌≡◌ {A = (ℕ × ℕ) × List ℕ} ((answer.refused, answer.length), after) (flat_lent 0 line)

-- the promise of `coircord_refusal_line`
abbrev pub WritesRefusalFlat : List ℕ → ℕ → LineAnswer → List ℕ → Type 0
WritesRefusalFlat before number = Written (writing before (room_guards before) (refusal_line number))

-- the promise of `coircord_event_line`
abbrev pub WritesEventFlat : List ℕ → ℕ → ℕ → LineAnswer → List ℕ → Type 0
WritesEventFlat before event number = Written (writing before (room_guards before) (event_line event number))

-- the promise of `coircord_host_line`
abbrev pub WritesHostFlat : List ℕ → ℕ → Host → World → LineAnswer → List ℕ → Type 0
WritesHostFlat before me host world = Written (writing before (host_guards before me host world) (host_line me host))

-- the promise of `coircord_totals_line`
abbrev pub WritesTotalsFlat : List ℕ → ℕ → ℕ → LineAnswer → List ℕ → Type 0
WritesTotalsFlat before events refusals = Written (writing before (room_guards before) (totals_line events refusals))
