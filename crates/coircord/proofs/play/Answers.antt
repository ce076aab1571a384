-- What is left to play are the events behind those that a call took. Assumes nothing.
use Rattle.std.proofs.Common.{arith, ap}
use Rattle.answer.specs.Answer.{accepted}
use Rattle.run.specs.Calls.{ending_of}
use Rattle.run.proofs.Taking.{takes_within, takes_some}
use Rattle.coircord.proofs.play.Goals as goal

pub slice_bounds-events-count : goal.slice_bounds-events-count
slice_bounds-events-count g c = takes_within c.loop-played.run c.loop-played.table c.loop-played.events.now c.in-Ok.ensures

pub slice_bounds-events-start : goal.slice_bounds-events-start
slice_bounds-events-start g c = takes_within c.loop-played.run c.loop-played.table c.loop-played.events.now c.in-Ok.ensures

pub loop-played-smaller : goal.loop-played-smaller
loop-played-smaller g c =
    let l = c.loop-played in
    let some = takes_some l.run l.table l.events.now c.in-Ok.ensures (ap (λ s. accepted (ending_of s)) c.in-Some.is) in
    let within = takes_within l.run l.table l.events.now c.in-Ok.ensures in
    grind (arith, some, within)
