-- `act` meets its promise: the host's words are lent to its turn, or, once the sender is asked, to its delivery.
use Rattle.std.proofs.Common.{rules}
use Rattle.std.specs.Prelude.{Ok, Err}
use borrow.Author.Tests.{eq-eqb, ne_eqb}
use Rattle.turn.specs.Turning.{turning, turned_says}
use Rattle.table.specs.Table.{turning_at}
use Rattle.table.proofs.Lending.{on_part_lem, delivers_lem}
use Rattle.table.proofs.parts.act.Goals as goal

pub returns-then-event-ne-DELIVER : goal.returns-then-event-ne-DELIVER
unfolding turning_at
returns-then-event-ne-DELIVER c =
    let a = c.args in
    rw (ne_eqb a.event.kind 0 c.if-event-ne-DELIVER.true)
    (on_part_lem a.table.now a.event.host (λ words. turning words a.host a.world a.event.host) (turned_says c.turn.result) c.turn.new.sets c.turn.ensures)

pub returns-in_err-deliver_word : goal.returns-in_err-deliver_word
returns-in_err-deliver_word c =
    let a = c.args in
    let refusal = c.in_err-deliver_word.field-0.0 in
    let refused =
    delivers_lem a.table.now a.host a.sender a.world a.event (Err refusal) c.deliver_word.new.sets c.said-said.result c.said-said.ensures c.in_err-deliver_word.ensures in
    rw (eq-eqb a.event.kind 0 c.if-event-ne-DELIVER.false) (search (rules, refused))

pub returns : goal.returns
returns c =
    let a = c.args in
    rw (eq-eqb a.event.kind 0 c.if-event-ne-DELIVER.false)
    (delivers_lem a.table.now a.host a.sender a.world a.event (Ok tt) c.deliver_word.new.sets c.said-said.result c.said-said.ensures c.in_ok-deliver_word.ensures)
