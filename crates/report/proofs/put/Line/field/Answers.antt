-- `field` meets its promise: what stands before the number, then the number.
use Rattle.report.proofs.Adding.{◌then◌}
use Rattle.report.proofs.put.Line.field.Goals as goal

pub returns : goal.returns
returns c = c.text.ensures then c.number.ensures
