-- `held` meets its promise: the search finds the first value that has the sender.
use Rattle.std.proofs.Common.{rules, ◌+◌, ◌%◌}
use borrow.Author.Tests.{ne_eqb}
use Rattle.quorum.specs.Sets.{member}
use Rattle.host.specs.Words.{AUX, senders}
use Rattle.host.proofs.Finding.{find_first}
use Rattle.delivery.specs.Recording.{held_aux}
use Rattle.delivery.proofs.recording.Heard.held.Goals as goal

pub returns : goal.returns
unfolding held_aux senders
returns c =
    let h = c.args.self.now in
    rw (← c.instance-inst.ensures, ne_eqb _ _ c.if-self-eq-VAL.false)
    (find_first (λ v. member (senders h.sets.now AUX c.instance-inst.result v) h.frame.sender) (2 + c.instance-inst.result % 2) _ _ _ c.find.ensures.ran (λ x b q k. search rules))
