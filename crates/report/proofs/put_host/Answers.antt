-- `put_host` meets its promise: its parts are the line.
use borrow.Author.Tests.{eq-eqb, ne_eqb}
use Rattle.report.specs.Text.{text}
use Rattle.report.proofs.Lines.{lying_parts, standing_parts}
use Rattle.report.proofs.Adding.{◌then◌, means}
use Rattle.report.proofs.put_host.Goals as goal

pub returns-then-host-eq-LYING : goal.returns-then-host-eq-LYING
unfolding text
returns-then-host-eq-LYING c =
    means (c.field.ensures then c.text.ensures then c.text-then-host-eq-LYING.ensures)
    (lying_parts c.args.me c.args.host (eq-eqb _ 3 c.if-host-eq-LYING.true))

pub returns : goal.returns
unfolding text
returns c =
    let standing = c.field.ensures then c.text.ensures then means c.text-2.ensures c.standing_word.ensures.word in
    let place = standing then c.field-2.ensures then c.field-3.ensures then c.field-4.ensures in
    let vote = place then c.field-5.ensures then c.text-3.ensures then c.put_decision.ensures.adds in
    means (vote then c.field-6.ensures then c.text-4.ensures) (standing_parts c.args.me c.args.host (ne_eqb _ 3 c.if-host-eq-LYING.false))
