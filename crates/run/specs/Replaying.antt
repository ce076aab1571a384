-- A caller that plays a run file's events with `play`. Document 01, "Refusal numbers": "A refused event leaves the run as it was, and the next
-- event follows": it calls again after each refused event, until the bytes end.
use Rattle.std.specs.Prelude.{ℕ, zero, suc, List, drop}
use Rattle.answer.specs.Answer.{Answer, refused, accepted}
use Rattle.run.specs.Playing.{Ending, ended, stopped}
use Rattle.run.specs.Calls.{playing}
use Rattle.run.specs.declared.Run.{Run}

-- after a refused event the caller goes on with what the call left, behind the bytes that it took; else this is the end
abbrev pub calling : List ℕ → Answer Ending × (Run × ℕ × List ℕ) → (Run → List ℕ → List ℕ → Run × List ℕ) → Run × List ℕ
calling bytes (refused k, (run, taken, table)) again = (run, table)
calling bytes (accepted ended, (run, taken, table)) again = (run, table)
calling bytes (accepted (stopped k), (run, taken, table)) again = again run table (drop taken bytes)

-- at most so many calls
unfoldable pub replaying : ℕ → Run → List ℕ → List ℕ → Run × List ℕ
replaying zero run table bytes = (run, table)
replaying (suc fuel) run table bytes = calling bytes (playing run table bytes) (λ r t rest. replaying fuel r t rest)
