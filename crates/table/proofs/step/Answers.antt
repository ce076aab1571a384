-- `step` meets its promise: past the gate there is a host, whose part of the table answers.
use Rattle.std.proofs.Common.{sym, length}
use Rattle.table.proofs.Passing.{step_in}
use Rattle.table.proofs.step.Goals as goal

pub act-requires : goal.act-requires
act-requires c =
    let a = c.args in
    step_in (length a.table.now) a.host a.sender a.world a.event (sym c.in_ok-gate.ensures)
