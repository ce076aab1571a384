-- `host_line` meets its promise: past its guards its parts are the line.
use Rattle.std.proofs.Common.{refl, rules, sym}
use Rattle.report.proofs.Written.{lent_fine, written, host_clear}
use Rattle.report.proofs.host_line.Goals as goal

pub returns : goal.returns
returns c =
    let a = c.args in
    let fine = lent_fine a.out.now a.host c.if-out-lt-ROOM.false c.out_of_range.ensures c.if-out_of_range.false in
    written _ (host_clear a.out.now a.me a.host a.world fine (sym c.in_ok-check.ensures) c.if-world-me.false) c.put_host.ensures refl (search rules)
