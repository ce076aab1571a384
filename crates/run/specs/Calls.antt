-- The calls of a run: what each answers and leaves, for every input. Document 01, "Refusal numbers".
use Rattle.std.specs.Prelude.{ℕ, ◌≡◌, List, ◌∷◌, ltb, length, Option, Some, None, Result, Ok, Err}
use Rattle.answer.specs.Answer.{Answer, refused, accepted, Guard, ◌when◌, guarded, lent, number, says}
use Rattle.answer.specs.declared.Refusal.{Refusal}
use Rattle.quorum.specs.World.{world_guards}
use Rattle.quorum.specs.declared.World.{World}
use Rattle.run.specs.Starting.{starting, rest_by}
use Rattle.run.specs.Playing.{pieces, Ending, ended, stopped, Course, course}
use Rattle.run.specs.declared.Run.{Run}
use Rattle.run.specs.declared.Opened.{Opened}
use Rattle.run.specs.declared.Played.{Played}

-- 13: "the run table's is that for 32 hosts, for every n"; 2 and 3 next. What an event's records are refused for, the event is.
abbrev pub play_guards : Run → List ℕ → List Guard
play_guards run table = (13 when ltb (length table) 14336) ∷ world_guards run.world

-- why it stopped, beside what it leaves: the run, the bytes taken and the table
abbrev pub left : Course → Ending × (Run × ℕ × List ℕ)
left c = (c.ending, (c.run, c.taken, c.table))

-- a refused call leaves the run as it was, takes no byte and changes no word
unfoldable pub playing : Run → List ℕ → List ℕ → Answer Ending × (Run × ℕ × List ℕ)
playing run table bytes = lent (run, 0, table) (guarded (play_guards run table) (left (course run table (pieces bytes))))

-- ---- What code returns

-- why a call stopped: at the last event's refusal, or as nothing is left
abbrev pub ending_of : Option Refusal → Ending
ending_of None = ended
ending_of (Some refusal) = stopped (number refusal)

-- what a call's result says, with the table beside it. Refused, the run is the one that the caller has, and no byte is taken
abbrev pub left_by : Run → Result Played Refusal → List ℕ → Answer Ending × (Run × ℕ × List ℕ)
left_by run (Ok p) table = (accepted (ending_of p.stop), (p.run, p.taken, table))
left_by run (Err refusal) table = (refused (number refusal), (run, 0, table))

-- the world of a run
abbrev pub world_by : Answer Run → Answer World
world_by (refused k) = refused k
world_by (accepted run) = accepted run.world

-- ---- Promises

-- the promise of `start`
abbrev pub Starts : List ℕ → Result Run Refusal → Type 0
Starts bytes result = says result ≡ starting bytes

-- the promise of `rest`
abbrev pub Rests : List ℕ → List ℕ → Type 0
Rests bytes part = part ≡ rest_by bytes (starting bytes)

-- the promise of `open`: the world that `start` says, with the part that `rest` hands back beside it
abbrev pub Opens : List ℕ → Opened → Type 0
Opens bytes opened =
    ◌≡◌ {A = Answer World × List ℕ} (says opened.answer, opened.rest.now) (world_by (starting bytes), rest_by bytes (starting bytes))

-- the promise of `play`
abbrev pub Plays : Run → List ℕ → List ℕ → Result Played Refusal → List ℕ → Type 0
Plays run before bytes result after =
    ◌≡◌ {A = Answer Ending × (Run × ℕ × List ℕ)} (left_by run result after) (playing run before bytes)
