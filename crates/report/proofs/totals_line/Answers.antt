-- `totals_line` meets its promise: its parts are the line.
use Rattle.std.proofs.Common.{refl, rules, append_assoc}
use borrow.Author.Tests.{le-ltb}
use Rattle.report.specs.Text.{text}
use Rattle.report.specs.Lines.{totals_line}
use Rattle.report.proofs.Adding.{◌then◌, means}
use Rattle.report.proofs.Written.{written}
use Rattle.report.proofs.totals_line.Goals as goal

pub returns : goal.returns
unfolding text totals_line
returns c =
    written _ (le-ltb _ _ c.if-out-lt-ROOM.false, tt)
    (means (c.field.ensures then c.field-2.ensures then c.text.ensures) (simp append_assoc)) refl (search rules)
