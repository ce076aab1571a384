-- `refusal_line` meets its promise.
use Rattle.std.proofs.Common.{refl, rules}
use borrow.Author.Tests.{le-ltb}
use Rattle.report.specs.Text.{text}
use Rattle.report.specs.Lines.{refusal_line}
use Rattle.report.proofs.Adding.{◌then◌}
use Rattle.report.proofs.Written.{written}
use Rattle.report.proofs.refusal_line.Goals as goal

pub returns : goal.returns
unfolding text refusal_line
returns c =
    written _ (le-ltb _ _ c.if-out-lt-ROOM.false, tt) (c.field.ensures then c.text.ensures) refl (search rules)
