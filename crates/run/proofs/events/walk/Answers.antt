-- `walk` meets its promise: at each turn of the loop the whole course is the bytes taken so far and the course from here on.
use Rattle.std.proofs.Common.{rules, ℕ, ◌≡◌, List, refl, sym, drop}
use Rattle.answer.specs.Answer.{Answer, accepted, refused, number}
use Rattle.turn.specs.Applying.{Turn}
use Rattle.turn.specs.Turning.{turn_of}
use Rattle.file.specs.Reading.{something, event_in, event_at}
use Rattle.table.specs.Stepping.{stepping}
use Rattle.run.specs.Playing.{pieces, sender_in, host_at}
use Rattle.run.proofs.Showing.{sees_nothing, sees_event}
use Rattle.run.proofs.Walking.{rests_full, rests_empty, walk_ends, walk_piece, walk_refused, walk_goes, within}
use Rattle.run.proofs.events.walk.Goals as goal

pub returns-in-None : goal.returns-in-None
returns-in-None c =
    let l = c.loop-going in
    let bytes = c.args.bytes.now in
    walk_ends l.going l.table (pieces (drop l.at bytes)) l.at l.invariant.1 (rests_empty l.going l.table (sees_nothing bytes l.at (sym c.in-None.ensures)))

pub returns-in-Some-Err : goal.returns-in-Some-Err
returns-in-Some-Err c =
    let l = c.loop-going in
    walk_piece l.going l.table c.args.bytes.now l.at c.stop.result l.invariant.1 c.loop-going-test.true l.invariant.0
    (rw c.in-Some-Err.field-0-is at (sym c.in-Some-Err.ensures)) c.stop.ensures

pub bounds-going-i : goal.bounds-going-i
unfolding event_at event_in
bounds-going-i c = search rules

pub returns-in-Err : goal.returns-in-Err
returns-in-Err c =
    let l = c.loop-going in
    let bytes = c.args.bytes.now in
    let e = c.in-Some-Ok.event in
    let seen : event_at bytes l.at ≡ something (accepted e) = rw c.in-Some-Ok.field-0-is at (sym c.in-Some-Ok.ensures) in
    let stepped : ◌≡◌ {A = Answer Turn × List ℕ} (refused (number c.in-Err.refusal), c.step.new.table)
    (stepping l.table (host_at l.going e.host) (host_at l.going (sender_in e)) l.going.world e) =
    rw (← c.sender_of.ensures.0) c.in-Err.ensures in
    walk_refused l.going l.table bytes l.at l.invariant.1 c.loop-going-test.true seen stepped c.stop-in-Err.result refl c.stop-in-Err.ensures

pub bounds-going-i-in-Ok : goal.bounds-going-i-in-Ok
unfolding event_at event_in
bounds-going-i-in-Ok c = search rules

pub loop-going-smaller : goal.loop-going-smaller
unfolding event_at event_in
loop-going-smaller c = search rules

pub loop-going-preserved : goal.loop-going-preserved
loop-going-preserved c =
    let l = c.loop-going in
    let bytes = c.args.bytes.now in
    let e = c.in-Some-Ok.event in
    let seen : event_at bytes l.at ≡ something (accepted e) = rw c.in-Some-Ok.field-0-is at (sym c.in-Some-Ok.ensures) in
    let stepped : ◌≡◌ {A = Answer Turn × List ℕ} (accepted (turn_of c.in-Ok.turned), c.step.new.table)
    (stepping l.table (host_at l.going e.host) (host_at l.going (sender_in e)) l.going.world e) =
    rw (← c.sender_of.ensures.0) c.in-Ok.ensures in
    let (_, _, _, _, n) = sees_event bytes l.at seen in
    (within bytes l.at n, walk_goes l.going l.table bytes l.at l.invariant.1 c.loop-going-test.true seen stepped c.record_after.result (turn_of c.in-Ok.turned) refl c.record_after.ensures)

pub returns-after-loop-going : goal.returns-after-loop-going
returns-after-loop-going c =
    let l = c.loop-going in
    walk_ends l.going l.table (pieces (drop l.at c.args.bytes.now)) l.at l.invariant.1
    (rests_full l.going l.table (pieces (drop l.at c.args.bytes.now)) c.loop-going-test.false)
