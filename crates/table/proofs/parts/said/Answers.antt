-- `said` meets its promise: a word that is no frame is not said, and of a frame its sender is asked.
use Rattle.std.proofs.Common.{rules}
use Rattle.frame.specs.Frame.{unpacking, frame_of}
use Rattle.table.specs.Table.{said}
use Rattle.table.proofs.Lending.{part_lent}
use Rattle.table.proofs.Passing.{agreed_or}
use Rattle.table.proofs.parts.said.Goals as goal

pub slice_bounds-may_send-end : goal.slice_bounds-may_send-end
unfolding unpacking frame_of
slice_bounds-may_send-end c = search rules

pub returns : goal.returns
unfolding said
returns c =
    simp (c.unwrap_or.ensures, agreed_or, c.may_send.ensures, ← c.in-Ok.ensures, part_lent)
