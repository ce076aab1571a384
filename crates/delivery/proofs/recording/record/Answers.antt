-- `record` meets its promise: the sender of a new frame joins its set.
use Rattle.std.proofs.Common.{rules, ◌≡◌, None, arith}
use Rattle.quorum.proofs.Adding.{or_shl}
use Rattle.host.specs.Words.{senders, put}
use Rattle.delivery.specs.Recording.{recording}
use Rattle.delivery.proofs.recording.record.Goals as goal

pub returns : goal.returns
unfolding recording senders put
returns c =
    let n : c.held.result ≡ None = search rules in
    simp (or_shl 32 c.args.frame.sender (omega arith), c.place-place.ensures, ← c.is_recorded.ensures, c.if-is_recorded.false, ← c.held.ensures, n)
