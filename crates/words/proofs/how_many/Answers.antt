-- The words that pass are counted as they come. Assumes nothing.
use mathlib.Core.Path.{refl, ◌∙◌}
use Rattle.std.proofs.Common.{rules}
use Rattle.std.proofs.lemmas.Iterator.{YieldsList-from_range}
use Rattle.std.proofs.lemmas.Iterator.Consumers.{YieldsList-from_filter, YieldsList-at, count_from_yields_List}
use Rattle.words.specs.Words.{answered_by}
use Rattle.words.proofs.Tally.{tallied}
use Rattle.words.proofs.how_many.Goals as goal

pub returns : goal.returns
returns c =
    count_from_yields_List _ _ c.count.ensures.ran
    (YieldsList-from_filter _ (answered_by c.args.answer) (YieldsList-at c.filter.ensures.source (YieldsList-from_range 0 65536 65536 refl refl)) c.filter.ensures.closure (λ x b q k. search rules))
    ∙ tallied (answered_by c.args.answer) 65536
