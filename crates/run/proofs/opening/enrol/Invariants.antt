-- The first i records are read and accepted.
use Rattle.std.proofs.Common.{◌≡◌}
use Rattle.run.specs.Starting.{enrolled}
use Rattle.run.proofs.Enrolling.{Read}
use Rattle.run.proofs.opening.enrol.Given as goal

abbrev pub invariant-loop-i : goal.invariant-loop-i
invariant-loop-i l = (l.i-end ≡ l.world.n) × (l.hosts ≡ enrolled l.bytes l.i) × Read l.bytes l.i
