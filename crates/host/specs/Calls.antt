-- What every call on a host's record and words asks first, and the promises of this crate's calls. Document 01, "Refusal numbers".
use Rattle.std.specs.Prelude.{ℕ, ◌≡◌, Bool, ◌||◌, List, ◌∷◌, ltb, Result}
use Rattle.answer.specs.Answer.{Answer, Guard, ◌when◌, guarded, says}
use Rattle.answer.specs.declared.Refusal.{Refusal}
use Rattle.quorum.specs.World.{world_guards, thresholds_of}
use Rattle.quorum.specs.declared.World.{World}
use Rattle.quorum.specs.declared.Thresholds.{Thresholds}
use Rattle.host.specs.Words.{instance}
use Rattle.host.specs.Record.{bad_host}
use Rattle.host.specs.declared.Host.{Host}

-- "13 comes first in any call": fewer than 448 words, or a record out of range. "A direct call given n and t gives 2, then 3, next."
abbrev pub ready_guards : ℕ → Host → World → List Guard
ready_guards words h w = (13 when ltb words 448 || bad_host h) ∷ world_guards w

unfoldable pub readying : ℕ → Host → World → Answer Thresholds
readying words h w = guarded (ready_guards words h w) (thresholds_of w)

-- the promise of `out_of_range`
abbrev pub Strays : Host → Bool → Type 0
Strays host answer = answer ≡ bad_host host

-- the promise of `ready`
abbrev pub Readies : ℕ → Host → World → Result Thresholds Refusal → Type 0
Readies words host world result = says result ≡ readying words host world

-- the promise of `instance`
abbrev pub Numbers : ℕ → ℕ → ℕ → ℕ → Type 0
Numbers round phase stage number = number ≡ instance round phase stage
