-- The calls on a run by value for other languages.
use Rattle.std.specs.Prelude.{ℕ, ◌≡◌, List}
use Rattle.answer.specs.Answer.{Answer}
use Rattle.run.specs.Starting.{starting, blank, record_place}
use Rattle.run.specs.Playing.{Ending, ended, stopped}
use Rattle.run.specs.Calls.{playing}
use Rattle.run.specs.declared.Run.{Run}
use Rattle.calls.specs.Flat.{flat, flat_lent, giving}
use Rattle.calls.specs.declared.runs.StartAnswer.{StartAnswer}
use Rattle.calls.specs.declared.runs.PlayAnswer.{PlayAnswer}

-- "from the first event on": where it stands, beside the run
abbrev pub start_parts : Run → Run × ℕ
start_parts run = (run, record_place run.world.n)

-- the promise of `coircord_start`
abbrev pub StartsFlat : List ℕ → StartAnswer → Type 0
StartsFlat bytes answer =
    ◌≡◌ {A = ℕ × (Run × ℕ)} (answer.refused, (answer.run, answer.first)) (flat (blank, 0) (giving start_parts (starting bytes)))

-- the number by which the last event was refused, 0 where nothing is left to play
abbrev pub end_number : Ending → ℕ
end_number ended = 0
end_number (stopped k) = k

-- what a call that is refused leaves is said by `playing`
abbrev pub flat_play : Answer Ending × (Run × ℕ × List ℕ) → (ℕ × ℕ) × (Run × ℕ × List ℕ)
flat_play (answer, after) = flat_lent 0 (giving end_number answer, after)

-- the promise of `coircord_play`
abbrev pub PlaysFlat : Run → List ℕ → List ℕ → PlayAnswer → List ℕ → Type 0
PlaysFlat run before bytes answer after =
    ◌≡◌ {A = (ℕ × ℕ) × (Run × ℕ × List ℕ)} ((answer.refused, answer.event), (answer.run, answer.taken, after))
    (flat_play (playing run before bytes))
