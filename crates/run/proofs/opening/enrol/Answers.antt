-- `enrol` meets its promise: the first i records are read and accepted.
use Rattle.std.proofs.Common.{rules, ◌≡◌, List, refl, sym, ap, ◌∙◌, arith, add-one}
use Rattle.answer.specs.Answer.{accepted}
use Rattle.host.specs.declared.Host.{Host}
use Rattle.run.specs.Starting.{enrolled, fresh_run, first_run}
use Rattle.run.proofs.Enrolling.{Read, reads_none, reads_one, enrols_one, records_stop, records_pass}
use Rattle.run.proofs.opening.enrol.Goals as goal

pub loop-i-init : goal.loop-i-init
unfolding enrolled
loop-i-init c = (refl, simp c.nobody-hosts.ensures, reads_none c.args.bytes.now)

pub returns-in_err-hosts : goal.returns-in_err-hosts
returns-in_err-hosts c =
    let l = c.loop-i in
    let a = c.args in
    let stopped =
    records_stop a.bytes.now l.i a.world.n (accepted (first_run a.bytes.now a.world)) (omega arith) l.invariant.2 (sym c.in_err-hosts.ensures) in
    search (rules, stopped)

pub loop-i-preserved : goal.loop-i-preserved
loop-i-preserved c =
    let l = c.loop-i in
    let bytes = c.args.bytes.now in
    let read = sym c.in_ok-hosts.ensures in
    (refl, rw add-one (enrols_one bytes l.i l.hosts l.invariant.1 read), rw add-one (reads_one bytes l.i l.invariant.2 read))

pub returns : goal.returns
returns c =
    let l = c.loop-i in
    let a = c.args in
    let bytes = a.bytes.now in
    let all : l.i ≡ a.world.n = omega arith in
    let hosts : l.hosts ≡ enrolled bytes a.world.n = rw all at l.invariant.1 in
    let read : Read bytes a.world.n = rw all at l.invariant.2 in
    ap (λ (hs : List Host). accepted (fresh_run a.world hs)) hosts
    ∙ sym (records_pass bytes a.world.n (accepted (first_run bytes a.world)) read)
