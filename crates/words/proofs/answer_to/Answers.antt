-- Where a word is accepted, packing its frame can't give another word or a refusal. Assumes nothing.
use mathlib.Core.Path.{refl, ◌∙◌}
use native.Mathlib.Omega.{arith}
use borrow.Author.Tests.{eq-eqb}
use Rattle.answer.proofs.Tests.{clash}
use Rattle.frame.proofs.RoundTrip.{packs_back}
use Rattle.words.proofs.answer_to.Goals as goal

pub returns-else-eq : goal.returns-else-eq
returns-else-eq c =
    let same = packs_back c.args.word c.in-Ok.frame c.pack.result (omega arith) c.in-Ok.ensures c.pack.ensures in
    let one = rw same at c.eq.ensures in
    clash (one ∙ eq-eqb c.args.word c.args.word refl) c.if-eq.false
