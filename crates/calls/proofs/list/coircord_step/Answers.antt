-- `coircord_step` meets its promise: two records are read, and the one that the event makes is stored at its host's place.
use Rattle.std.proofs.Common.{refl}
use Rattle.answer.specs.Answer.{accepted, refused, number}
use Rattle.turn.specs.Applying.{idle, quiet, broadcast}
use Rattle.calls.proofs.Listing.{in_list, in_list_same}
use Rattle.calls.proofs.list.coircord_step.Goals as goal

pub returns-in-Ok-Idle : goal.returns-in-Ok-Idle
returns-in-Ok-Idle c =
    let a = c.args in
    in_list_same a.hosts.now a.table.now a.world a.event.now c.places-at.result.0 c.places-at.result.1 (accepted idle) c.meet.new.table refl
    c.if-hosts-lt32.false c.places-at.ensures.host.0 c.places-at.ensures.sender.0 (rw c.in-Ok-Idle.field-0-is at c.in-Ok-Idle.ensures)

pub returns-in-Ok-Quiet : goal.returns-in-Ok-Quiet
returns-in-Ok-Quiet c =
    let a = c.args in
    in_list a.hosts.now a.table.now a.world a.event.now c.places-at.result.0 c.places-at.result.1 (accepted (quiet c.in-Ok-Quiet.next)) c.meet.new.table
    c.if-hosts-lt32.false c.places-at.ensures.host.0 c.places-at.ensures.sender.0 (rw c.in-Ok-Quiet.field-0-is at c.in-Ok-Quiet.ensures)

pub returns-in-Ok-Broadcast : goal.returns-in-Ok-Broadcast
returns-in-Ok-Broadcast c =
    let a = c.args in
    rw c.word_of.ensures.0
    (in_list a.hosts.now a.table.now a.world a.event.now c.places-at.result.0 c.places-at.result.1
    (accepted (broadcast c.in-Ok-Broadcast.next c.in-Ok-Broadcast.frame)) c.meet.new.table
    c.if-hosts-lt32.false c.places-at.ensures.host.0 c.places-at.ensures.sender.0 (rw c.in-Ok-Broadcast.field-0-is at c.in-Ok-Broadcast.ensures))

pub returns-in-Err : goal.returns-in-Err
returns-in-Err c =
    let a = c.args in
    rw (c.from-in-Err-2.ensures, c.from-in-Err.ensures)
    (in_list_same a.hosts.now a.table.now a.world a.event.now c.places-at.result.0 c.places-at.result.1 (refused (number c.in-Err.refusal)) c.meet.new.table refl
    c.if-hosts-lt32.false c.places-at.ensures.host.0 c.places-at.ensures.sender.0 c.in-Err.ensures)
