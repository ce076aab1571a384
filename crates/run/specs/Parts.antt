-- What private functions answer, for every case: these definitions serve the crate, and no promise of a call names them.
use Rattle.std.specs.Prelude.{ℕ, ◌≡◌, List}
use Rattle.answer.specs.Answer.{Answer, refused, accepted}
use Rattle.run.specs.Playing.{settled, Ending, stopped, Course}
use Rattle.run.specs.Calls.{ending_of}
use Rattle.run.specs.declared.Run.{Run}
use Rattle.run.specs.declared.Played.{Played}

-- all that a played struct says
abbrev pub played_says : Played → Answer Ending × (Run × ℕ)
played_says p = (accepted (ending_of p.stop), (p.run, p.taken))

-- a refused event, with so many bytes taken
abbrev pub stopped_at : Run → ℕ → ℕ → Answer Ending × (Run × ℕ)
stopped_at run taken k = (accepted (stopped k), (settled run 0 (refused k), taken))

-- what a call that is not refused says of a course
abbrev pub course_says : Course → Answer Ending × (Run × ℕ × List ℕ)
course_says c = (accepted c.ending, (c.run, c.taken, c.table))

-- a played struct and the table beside it are what a course is
abbrev pub IsCourse : Played → List ℕ → Course → Type 0
IsCourse p table c = ◌≡◌ {A = Answer Ending × (Run × ℕ × List ℕ)} (accepted (ending_of p.stop), (p.run, p.taken, table)) (course_says c)
