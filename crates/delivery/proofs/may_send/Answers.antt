-- What `may_send` asks of: the frame is in range and the words are all there, since no guard refused.
use Rattle.std.proofs.Common.{sym}
use Rattle.delivery.proofs.Passing.{asked_means}
use Rattle.delivery.proofs.may_send.Goals as goal

pub invariant_of-heard : goal.invariant_of-heard
invariant_of-heard c =
    let a = c.args in
    let (t, l) = asked_means a.sets.now a.host a.world a.frame (sym c.in_ok-ready.ensures) (sym c.in_ok-sender.ensures) in
    record { told = t; all = l }
