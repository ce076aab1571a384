-- Demand 3 is not empty: a recorded run of four hosts, of which one lies and others decide, computed by the definitions. Assumes nothing.
use Prim.Native.Nat.{ℕ}
use mathlib.Core.Path.{◌≡◌, refl}
use mathlib.Core.List.{List, [], ◌∷◌}
use native.Mathlib.Omega.{arith}
use lib.Count.{ones}
use lib.ListN.{length}
use Rattle.answer.specs.Answer.{accepted}
use Rattle.frame.specs.Frame.{unpacking, frame_of}
use Rattle.quorum.specs.Sets.{member, add}
use Rattle.quorum.specs.Count.{count}
use Rattle.host.specs.First.{first}
use Rattle.host.specs.Words.{senders, marks, put}
use Rattle.view.specs.View.{only_of, phase_estimate, round_estimate, decided, after_round, after_view}
use Rattle.turn.specs.Moves.{due, search, beginning, heard, viewers, view_of, viewing, proceeding, chosen}
use Rattle.turn.specs.Turning.{turning}
use Rattle.delivery.specs.Recording.{held_aux, recording, may_send}
use Rattle.delivery.specs.Delivery.{delivering, delivering_word, asking}
use Rattle.file.specs.Layouts.{header_world}
use Rattle.file.specs.Reading.{event_in}
use Rattle.table.specs.Table.{part_of, with_part, said, delivering_at, turning_at}
use Rattle.table.specs.Stepping.{readying, stepping}
use Rattle.run.specs.Starting.{world_in, enrolled, records_guards, starting, first_run, rest_by}
use Rattle.run.specs.Playing.{pieces, host_at, happens, after}
use Rattle.run.specs.declared.Run.{Run}
use Rattle.run.specs.Broadcasts.{broadcasts}
use Rattle.safety.specs.Demand.{Honest, liars, proposal, Decided, Safe, cleared, events}
use Rattle.safety.proofs.Safe.{always_safe}

-- The bytes of examples/four-hosts-a-liar.run, in hexadecimal where a byte is not a host's number or 0. A turn of host i is 80 + i, 0, 0. A
-- delivery to host i is i and two bytes of a frame: the first is 02 for VAL and 42 for AUX, in phase 2 it is 03 and 43; the second, for value 1 of
-- host j, is 20 + j in stage 0 and A0 + j in stage 1, and for value 0 in stage 0 it is j.
unfoldable pub example : List ℕ
example =
    -- n 4, t 1; host 0 proposes 1, hosts 1 and 2 propose 0, host 3 lies
    0x18 ∷ 0x80 ∷ 0xc0 ∷ 0 ∷ 0 ∷ 0x80 ∷ 0 ∷ 0 ∷ 0x80 ∷ 0 ∷ 0 ∷ 0 ∷ 0 ∷ 0 ∷
    -- Round 1, phase 1, stage 0. Host 0 begins: VAL 1. This and the liar's VAL 1 go to hosts 0 and 1.
    0x80 ∷ 0 ∷ 0 ∷ 0 ∷ 0x02 ∷ 0x20 ∷ 0 ∷ 0x02 ∷ 0x23 ∷ 1 ∷ 0x02 ∷ 0x20 ∷ 1 ∷ 0x02 ∷ 0x23 ∷
    -- Host 1 echoes VAL 1, then begins: VAL 0. Its VAL 1 goes to both.
    0x81 ∷ 0 ∷ 0 ∷ 0x81 ∷ 0 ∷ 0 ∷ 0 ∷ 0x02 ∷ 0x21 ∷ 1 ∷ 0x02 ∷ 0x21 ∷
    -- Each admits 1 and sends AUX 1.
    0x80 ∷ 0 ∷ 0 ∷ 0x80 ∷ 0 ∷ 0 ∷ 0x81 ∷ 0 ∷ 0 ∷ 0x81 ∷ 0 ∷ 0 ∷
    -- Host 2 begins: VAL 0. Host 1's, this and the liar's VAL 0 go to host 1, which admits 0 too.
    0x82 ∷ 0 ∷ 0 ∷ 1 ∷ 0x02 ∷ 0x01 ∷ 1 ∷ 0x02 ∷ 0x02 ∷ 1 ∷ 0x02 ∷ 0x03 ∷ 0x81 ∷ 0 ∷ 0 ∷
    -- AUX 1 of host 0, of host 1 and of the liar go to host 0: its view is 1 alone.
    0 ∷ 0x42 ∷ 0x20 ∷ 0 ∷ 0x42 ∷ 0x21 ∷ 0 ∷ 0x42 ∷ 0x23 ∷ 0x80 ∷ 0 ∷ 0 ∷
    -- To host 1 the liar's AUX is 0: its view is 0 and 1.
    1 ∷ 0x42 ∷ 0x20 ∷ 1 ∷ 0x42 ∷ 0x21 ∷ 1 ∷ 0x42 ∷ 0x03 ∷ 0x81 ∷ 0 ∷ 0 ∷
    -- Stage 1. The same again, up to the AUX frames; here host 1 begins with VAL neither.
    0x80 ∷ 0 ∷ 0 ∷ 0 ∷ 0x02 ∷ 0xa0 ∷ 0 ∷ 0x02 ∷ 0xa3 ∷ 1 ∷ 0x02 ∷ 0xa0 ∷ 1 ∷ 0x02 ∷ 0xa3 ∷
    0x81 ∷ 0 ∷ 0 ∷ 0x81 ∷ 0 ∷ 0 ∷ 0 ∷ 0x02 ∷ 0xa1 ∷ 1 ∷ 0x02 ∷ 0xa1 ∷
    0x80 ∷ 0 ∷ 0 ∷ 0x80 ∷ 0 ∷ 0 ∷ 0x81 ∷ 0 ∷ 0 ∷ 0x81 ∷ 0 ∷ 0 ∷
    -- The liar's AUX is 1 to both: each view is 1 alone, and the estimate is 1.
    0 ∷ 0x42 ∷ 0xa0 ∷ 0 ∷ 0x42 ∷ 0xa1 ∷ 0 ∷ 0x42 ∷ 0xa3 ∷ 0x80 ∷ 0 ∷ 0 ∷
    1 ∷ 0x42 ∷ 0xa0 ∷ 1 ∷ 0x42 ∷ 0xa1 ∷ 1 ∷ 0x42 ∷ 0xa3 ∷ 0x81 ∷ 0 ∷ 0 ∷
    -- Phase 2, stage 0. The same; host 1's echo of VAL 1 has sent what it would begin with.
    0x80 ∷ 0 ∷ 0 ∷ 0 ∷ 0x03 ∷ 0x20 ∷ 0 ∷ 0x03 ∷ 0x23 ∷ 1 ∷ 0x03 ∷ 0x20 ∷ 1 ∷ 0x03 ∷ 0x23 ∷
    0x81 ∷ 0 ∷ 0 ∷ 0x81 ∷ 0 ∷ 0 ∷ 0 ∷ 0x03 ∷ 0x21 ∷ 1 ∷ 0x03 ∷ 0x21 ∷
    0x80 ∷ 0 ∷ 0 ∷ 0x80 ∷ 0 ∷ 0 ∷ 0x81 ∷ 0 ∷ 0 ∷ 0x81 ∷ 0 ∷ 0 ∷
    0 ∷ 0x43 ∷ 0x20 ∷ 0 ∷ 0x43 ∷ 0x21 ∷ 0 ∷ 0x43 ∷ 0x23 ∷ 0x80 ∷ 0 ∷ 0 ∷
    1 ∷ 0x43 ∷ 0x20 ∷ 1 ∷ 0x43 ∷ 0x21 ∷ 1 ∷ 0x43 ∷ 0x23 ∷ 0x81 ∷ 0 ∷ 0 ∷
    -- Stage 1. The same; each view is 1 alone, and both decide 1.
    0x80 ∷ 0 ∷ 0 ∷ 0 ∷ 0x03 ∷ 0xa0 ∷ 0 ∷ 0x03 ∷ 0xa3 ∷ 1 ∷ 0x03 ∷ 0xa0 ∷ 1 ∷ 0x03 ∷ 0xa3 ∷
    0x81 ∷ 0 ∷ 0 ∷ 0x81 ∷ 0 ∷ 0 ∷ 0 ∷ 0x03 ∷ 0xa1 ∷ 1 ∷ 0x03 ∷ 0xa1 ∷
    0x80 ∷ 0 ∷ 0 ∷ 0x80 ∷ 0 ∷ 0 ∷ 0x81 ∷ 0 ∷ 0 ∷ 0x81 ∷ 0 ∷ 0 ∷
    0 ∷ 0x43 ∷ 0xa0 ∷ 0 ∷ 0x43 ∷ 0xa1 ∷ 0 ∷ 0x43 ∷ 0xa3 ∷ 0x80 ∷ 0 ∷ 0 ∷
    1 ∷ 0x43 ∷ 0xa0 ∷ 1 ∷ 0x43 ∷ 0xa1 ∷ 1 ∷ 0x43 ∷ 0xa3 ∷ 0x81 ∷ 0 ∷ 0 ∷
    []

-- the run before its first event, and after its last, the 89th
abbrev pub start : Run
start = first_run example (world_in example)

abbrev pub finish : Run
finish = (after start cleared (events 89 example start)).0

-- the header and the records are accepted
pub example_starts : starting example ≡ accepted start
unfolding example header_world enrolled records_guards starting
example_starts = refl

-- one host lies, as many as t allows; the other three are honest, and their proposals differ
pub example_hosts : (liars start ≡ 1) × (start.world.t ≡ 1) × Honest start 0 × Honest start 1 × Honest start 2
    × (proposal start 0 ≡ 1) × (proposal start 1 ≡ 0)
unfolding example header_world enrolled count
example_hosts = (refl, refl, (omega arith, refl), (omega arith, refl), (omega arith, refl), refl, refl)

-- so demand 3 speaks of this run
pub example_safe : Safe start finish (broadcasts start cleared (events 89 example start))
example_safe = always_safe example start example_starts (omega (arith, example_hosts.0, example_hosts.1)) 89

-- Hosts 0 and 1 have decided 1. None of the 89 events was refused, and there are no more. Host 0 has broadcast 8 frames; host 1 has broadcast
-- 10, more than the 8 of equal proposals, since it echoed 1 in phase 1 beside its own values.
pub example_decides : Decided finish 0 1 × Decided finish 1 1 × (finish.events ≡ 89) × (finish.refused ≡ 0)
    × (length (pieces (rest_by example (accepted start))) ≡ 89) × ((host_at finish 0).sent ≡ 8) × ((host_at finish 1).sent ≡ 10)
unfolding example header_world enrolled pieces after happens event_in stepping readying delivering_at turning_at part_of with_part said unpacking frame_of delivering_word delivering asking may_send recording held_aux put add member senders marks turning chosen search first due ones proceeding beginning viewing viewers heard view_of after_view after_round round_estimate decided phase_estimate only_of
example_decides = ((refl, omega arith), (refl, omega arith), refl, refl, refl, refl, refl)
