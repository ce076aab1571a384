-- Playing events: the whole run, and what one call plays of it. Document 01, "Frames and run files" and "Refusal numbers": "A refused event
-- leaves the run as it was, and the next event follows; after an incomplete one there is none."
use Rattle.std.specs.Prelude.{ℕ, ◌+◌, Bool, cond, List, [], ◌∷◌, ltb, leb, length, get_or, set}
use Rattle.answer.specs.Answer.{Answer, refused, accepted}
use Rattle.frame.specs.Frame.{frame_of}
use Rattle.host.specs.declared.Host.{Host}
use Rattle.turn.specs.Applying.{Turn, idle, quiet, broadcast}
use Rattle.file.specs.Layouts.{three_at, event_of}
use Rattle.file.specs.Reading.{event_in}
use Rattle.file.specs.declared.Event.{Event}
use Rattle.table.specs.Stepping.{stepping}
use Rattle.run.specs.declared.Run.{Run}

-- ---- Events in the bytes

-- "Then events of three bytes": the bytes in pieces of three, of which the last may be incomplete
unfoldable pub pieces : List ℕ → List (List ℕ)
pieces [] = []
pieces (a ∷ []) = (a ∷ []) ∷ []
pieces (a ∷ b ∷ []) = (a ∷ b ∷ []) ∷ []
pieces (a ∷ b ∷ c ∷ rest) = (a ∷ b ∷ c ∷ []) ∷ pieces rest

-- the host that a piece names, by its five bits
abbrev pub host_in : List ℕ → ℕ
host_in piece = (event_of (three_at piece 0)).host

-- the sender that an event's frame names, by its five bits
abbrev pub sender_in : Event → ℕ
sender_in e = (frame_of e.word).sender

-- ---- One event of a run

-- the record of host i; five bits name one of the 32, so that the record of no host never shows
abbrev pub no_host : Host
no_host = record { round = 0; phase = 0; stage = 0; own = 0; est = 0; decision = 0; sent = 0; standing = 0; coins = 0 }

abbrev pub host_at : Run → ℕ → Host
host_at run i = get_or run.hosts i no_host

-- 1 where the piece is no whole event, else what the step on the table answers and leaves
abbrev pub happening : Run → List ℕ → Answer Event → Answer Turn × List ℕ
happening run table (refused k) = (refused k, table)
happening run table (accepted e) = stepping table (host_at run e.host) (host_at run (sender_in e)) run.world e

unfoldable pub happens : Run → List ℕ → List ℕ → Answer Turn × List ℕ
happens run table piece = happening run table (event_in piece 0)

-- the record after a turn
abbrev pub record_after : Host → Turn → Host
record_after h idle = h
record_after h (quiet g) = g
record_after h (broadcast g f) = g

-- "it takes at most 4,294,967,295 events"
abbrev pub most_events : ℕ
most_events = 4294967295

abbrev pub full : Run → Bool
full run = leb most_events run.events

-- a count that does not go past that number
abbrev pub counted : ℕ → ℕ
counted k = cond (ltb k most_events) (k + 1) k

-- the run after an event of host i: "events count from 1", and the refused ones are counted apart
abbrev pub settled : Run → ℕ → Answer Turn → Run
settled run i (refused k) = record { hosts = run.hosts; world = run.world; events = counted run.events; refused = counted run.refused }
settled run i (accepted turn) = record {
  hosts = set run.hosts i (record_after (host_at run i) turn);
  world = run.world;
  events = counted run.events;
  refused = run.refused;
}

-- the run and the table after a piece
abbrev pub run_after : Run → List ℕ → List ℕ → Run
run_after run table piece = settled run (host_in piece) (happens run table piece).0

abbrev pub table_after : Run → List ℕ → List ℕ → List ℕ
table_after run table piece = (happens run table piece).1

-- ---- The whole run

-- every event in order, refused ones skipped and counted
unfoldable pub after : Run → List ℕ → List (List ℕ) → Run × List ℕ
after run table [] = (run, table)
after run table (piece ∷ more) =
    cond (full run) (run, table) (after (run_after run table piece) (table_after run table piece) more)

-- ---- One call's part of it

-- why a call stopped: nothing is left to play, or an event was refused
pub data Ending : Type 0 where
  ended : Ending
  stopped : ℕ → Ending

-- what a call played: why it stopped, the run after it, how many bytes it took, and the table
pub record Course : Type 0 where
  pub ending : Ending
  pub run : Run
  pub taken : ℕ
  pub table : List ℕ

abbrev pub resting : Run → List ℕ → Course
resting run table = record { ending = ended; run = run; taken = 0; table = table }

-- the same with so many bytes taken before
abbrev pub further : ℕ → Course → Course
further k c = record { ending = c.ending; run = c.run; taken = k + c.taken; table = c.table }

-- a refused event is counted and ends the call; after an accepted one the call goes on
abbrev pub onwards : Run → List ℕ → Answer Turn × List ℕ → (Run → List ℕ → Course) → Course
onwards run piece (refused k, table) on =
    record { ending = stopped k; run = settled run (host_in piece) (refused k); taken = length piece; table = table }
onwards run piece (accepted turn, table) on = further (length piece) (on (settled run (host_in piece) (accepted turn)) table)

unfoldable pub course : Run → List ℕ → List (List ℕ) → Course
course run table [] = resting run table
course run table (piece ∷ more) =
    cond (full run) (resting run table) (onwards run piece (happens run table piece) (λ r t. course r t more))
