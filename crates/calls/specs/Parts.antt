-- What private functions answer, for every case: these definitions serve the crate, and no promise of a call names them.
use Rattle.std.specs.Prelude.{ℕ, List, ◌∷◌, ltb, length}
use Rattle.answer.specs.Answer.{Answer, refused, accepted, Guard, ◌when◌, guarded, going_on}
use Rattle.quorum.specs.World.{world_guards}
use Rattle.quorum.specs.declared.World.{World}
use Rattle.host.specs.declared.Host.{Host}
use Rattle.file.specs.Reading.{event_in}
use Rattle.file.specs.declared.Event.{Event}
use Rattle.table.specs.Stepping.{stepping}
use Rattle.turn.specs.Applying.{Turn}
use Rattle.run.specs.Playing.{sender_in}

-- the place of the event's host, and that of the frame's sender; a piece of an event names nobody, and the first place stands for it
abbrev pub host_place : Answer Event → ℕ
host_place (refused k) = 0
host_place (accepted e) = e.host

abbrev pub sender_place : Answer Event → ℕ
sender_place (refused k) = 0
sender_place (accepted e) = sender_in e

-- an event with the two records that it names
abbrev pub between : Host → Host → List ℕ → World → Answer Event → Answer Turn × List ℕ
between h sender table w (refused k) = (refused k, table)
between h sender table w (accepted e) = stepping table h sender w e

abbrev pub table_guards : List ℕ → World → List Guard
table_guards table w = (13 when ltb (length table) 14336) ∷ world_guards w

abbrev pub meeting : Host → Host → List ℕ → World → List ℕ → Answer Turn × List ℕ
meeting h sender table w event = going_on table (guarded (table_guards table w) tt) (between h sender table w (event_in event 0))
