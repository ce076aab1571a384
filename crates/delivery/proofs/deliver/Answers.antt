-- What `deliver` hands to `record`: the frame is in range and the words are all there, since no guard refused.
use Rattle.std.proofs.Common.{sym}
use Rattle.delivery.proofs.Passing.{delivered_means}
use Rattle.delivery.proofs.deliver.Goals as goal

pub record-requires : goal.record-requires
record-requires c =
    let a = c.args in
    delivered_means a.sets.now a.host a.world a.frame (sym c.in_ok-receiver.ensures) (sym c.in_ok-sender.ensures)
