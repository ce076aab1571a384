-- How the words are answered, and how many of them so.
use Rattle.std.specs.Prelude.{ℕ, Bool, eqb}
use Rattle.answer.specs.Answer.{number_of}
use Rattle.frame.specs.Frame.{unpacking}
use Rattle.quorum.specs.Count.{count}

-- a refusal by its number, an accepted word by 0: that it packs to itself again is a law of the codec
abbrev pub answered_by : ℕ → ℕ → Bool
answered_by number word = eqb (number_of (unpacking word)) number

-- of the words below `words`, those answered by `number`
abbrev pub tally : ℕ → ℕ → ℕ
tally words number = count words (answered_by number)
