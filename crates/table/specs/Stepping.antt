-- One event on the table: what it answers and leaves, for every content of what the call is lent. Document 01, "Refusal numbers": "Event: 1, 4,
-- 5 (host), 6; a turn then 10; a delivery then 7, 8, 9, 5 (sender), 10, 11, 12". The 1 is the reader's.
use Rattle.std.specs.Prelude.{ℕ, ◌≡◌, Bool, cond, ◌&&◌, ◌||◌, List, ◌∷◌, ◌++◌, ltb, eqb, length, Result}
use Rattle.answer.specs.Answer.{Answer, Guard, ◌when◌, guarded, going_on}
use Rattle.quorum.specs.World.{world_guards}
use Rattle.quorum.specs.declared.World.{World}
use Rattle.host.specs.Record.{bad_host}
use Rattle.host.specs.declared.Host.{Host}
use Rattle.turn.specs.Applying.{Turn}
use Rattle.turn.specs.Turning.{turned_says}
use Rattle.turn.specs.declared.Turned.{Turned}
use Rattle.answer.specs.declared.Refusal.{Refusal}
use Rattle.file.specs.Reading.{event_guards}
use Rattle.file.specs.declared.Event.{Event}
use Rattle.table.specs.Table.{delivering_at, turning_at}

-- event kinds: "0 deliver, 2 turn"
abbrev pub delivers : Event → Bool
delivers e = eqb e.kind 0

-- 13: "the run table's is that for 32 hosts, for every n"; the record of the event's host, and for a delivery that of the frame's sender
abbrev pub step_guards : ℕ → Host → Host → World → Event → List Guard
step_guards words h sender w e =
    (13 when ltb words 14336 || bad_host h || (delivers e && bad_host sender)) ∷ world_guards w ++ event_guards e w

unfoldable pub readying : ℕ → Host → Host → World → Event → Answer Unit
readying words h sender w e = guarded (step_guards words h sender w e) tt

-- what is left to the host: 6 and what follows
abbrev pub acting : List ℕ → Host → Host → World → Event → Answer Turn × List ℕ
acting table h sender w e = cond (delivers e) (delivering_at table h sender w e) (turning_at table h w e)

unfoldable pub stepping : List ℕ → Host → Host → World → Event → Answer Turn × List ℕ
stepping table h sender w e = going_on table (readying (length table) h sender w e) (acting table h sender w e)

-- the promise of `step`
abbrev pub Steps : List ℕ → Host → Host → World → Event → Result Turned Refusal → List ℕ → Type 0
Steps before host sender world event result after =
    ◌≡◌ {A = Answer Turn × List ℕ} (turned_says result, after) (stepping before host sender world event)
