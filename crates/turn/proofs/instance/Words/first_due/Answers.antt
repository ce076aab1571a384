-- `first_due` meets its promise: nothing before the loops' value of the loops' instance is due.
use Rattle.std.proofs.Common.{◌≡◌, refl, sym, ◌∙◌, arith, add-one}
use Rattle.host.specs.First.{first}
use Rattle.host.proofs.Firsts.{nowhere_more, first_is}
use Rattle.turn.specs.Moves.{due}
use Rattle.turn.proofs.Searches.{goes_on, hits, misses}
use Rattle.turn.proofs.instance.Words.first_due.Goals as goal

pub loop-value-init : goal.loop-value-init
unfolding first
loop-value-init c = (c.search.invariant.0, c.search.invariant.1, refl)

pub loop-value-preserved : goal.loop-value-preserved
loop-value-preserved c =
    let l = c.loop-value in
    let p = due c.args.self.now.lent.now c.args.need c.args.row c.search.number in
    (l.invariant.0, l.invariant.1, rw add-one (nowhere_more p l.value l.invariant.2 (sym c.is_due.ensures ∙ c.if-is_due.false)))

pub search-preserved : goal.search-preserved
search-preserved c =
    let l = c.loop-value in
    let p = due c.args.self.now.lent.now c.args.need c.args.row in
    let all : l.value ≡ 3 = omega arith in
    (l.invariant.0, goes_on p c.search.number l.invariant.1 (rw all at l.invariant.2))

pub returns-after-search : goal.returns-after-search
returns-after-search c =
    let p = due c.args.self.now.lent.now c.args.need c.args.row in
    let all : c.search.number ≡ 64 = omega arith in
    c.search.invariant.0 ∙ sym (misses p (rw all at c.search.invariant.1))

pub returns-then-is_due : goal.returns-then-is_due
returns-then-is_due c =
    let l = c.loop-value in
    let p = due c.args.self.now.lent.now c.args.need c.args.row in
    let here = first_is (p c.search.number) l.value 3 l.invariant.2 (sym c.is_due.ensures ∙ c.if-is_due.true) (omega arith) in
    sym (hits p c.search.number l.value (omega arith) l.invariant.1 here)
