-- `first_marked` meets its promise: the first of the instance's values whose mark is set.
use Rattle.std.proofs.Common.{rules, ◌+◌}
use Rattle.quorum.specs.Sets.{member}
use Rattle.host.specs.Words.{marks}
use Rattle.host.proofs.Finding.{find_first}
use Rattle.turn.proofs.instance.Instance.first_marked.Goals as goal

pub returns : goal.returns
returns c =
    let set = marks c.args.self.now.words.lent.now c.args.self.now.number in
    rw (← c.values.ensures) (find_first (λ v. member set (c.args.row + v)) c.values.result _ _ _ c.find.ensures.ran (λ x b q k. search rules))
