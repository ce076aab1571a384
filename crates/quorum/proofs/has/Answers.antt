-- `has` meets its promise: a word has no bit past its last, and a shift and a mask are a quotient and a remainder.
use Rattle.std.proofs.Common.{ℕ, ◌/◌, ◌^◌, ap, eqb, ◌∙◌}
use Rattle.std.proofs.lemmas.Nat.{and_mask}
use borrow.Author.Tests.{le-ltb}
use Rattle.quorum.specs.Sets.{member}
use Rattle.quorum.proofs.Members.{no_member}
use Rattle.quorum.proofs.has.Goals as goal

pub returns-then-j-lt32 : goal.returns-then-j-lt32
unfolding member
returns-then-j-lt32 c = ap (λ (x : ℕ). eqb x 1) (and_mask (c.args.set / 2 ^ c.args.j) 1)

pub returns-else-j-lt32 : goal.returns-else-j-lt32
returns-else-j-lt32 c = le-ltb c.args.j 32 c.if-j-lt32.false ∙ no_member 32 c.args.set c.args.j c.ranges.set.fits c.if-j-lt32.false
