-- Nothing below the loops' instance is due, and there nothing before the loops' value.
use Rattle.std.proofs.Common.{◌≡◌}
use Rattle.std.specs.Prelude.{None}
use Rattle.host.specs.First.{first}
use Rattle.turn.specs.Moves.{due}
use Rattle.turn.proofs.Searches.{Below}
use Rattle.turn.proofs.instance.Words.first_due.Given as goal

abbrev pub invariant-search : goal.invariant-search
invariant-search l = (l.found ≡ None) × Below (due l.self.lent.now l.need l.row) l.number

abbrev pub invariant-loop-value : goal.invariant-loop-value
invariant-loop-value l =
    (l.found ≡ None) × Below (due l.self.lent.now l.need l.row) l.number × (first (due l.self.lent.now l.need l.row l.number) l.value ≡ None)
