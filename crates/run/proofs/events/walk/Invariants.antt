-- At each turn of the loop the whole course is the bytes taken so far and the course from here on.
use Rattle.std.proofs.Common.{◌≡◌, ◌≤◌, ◌-◌, length, drop}
use Rattle.run.specs.Playing.{pieces, further, course}
use Rattle.run.proofs.events.walk.Given as goal

abbrev pub invariant-loop-going : goal.invariant-loop-going
invariant-loop-going l =
    (l.at ≤ length l.bytes) × (course l.initial.going l.initial.table (pieces l.bytes) ≡ further l.at (course l.going l.table (pieces (drop l.at l.bytes))))

abbrev pub decreases-loop-going : goal.decreases-loop-going
decreases-loop-going l = length l.bytes - l.at
