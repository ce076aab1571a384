-- The world of a vote, its check and its thresholds. Document 01, "The piece and its edges" (sizes), "What a host does" (the thresholds)
-- and "Refusal numbers" (2 and 3).
use Rattle.std.specs.Prelude.{ℕ, ◌+◌, ◌-◌, ◌*◌, ◌≡◌, Bool, ◌||◌, List, [], ◌∷◌, ltb, leb, Result}
use Rattle.answer.specs.Answer.{Answer, Guard, ◌when◌, guarded, says}
use Rattle.answer.specs.declared.Refusal.{Refusal}
use Rattle.quorum.specs.declared.World.{World}
use Rattle.quorum.specs.declared.Thresholds.{Thresholds}

-- "n hosts, 2 to 32, numbered from 0; t with n above 3t": any two numbers make a world, and the check refuses what is no such world
abbrev pub world_of : ℕ → ℕ → World
world_of n t = record { n = n; t = t }

-- Echo: "a value has t+1 or more VAL senders here"
abbrev pub echo_at : World → ℕ
echo_at w = w.t + 1

-- Admit: "a value has 2t+1 or more VAL senders"
abbrev pub admit_at : World → ℕ
admit_at w = 2 * w.t + 1

-- the view: "at least n−t senders whose recorded AUX value is admitted"
abbrev pub view_at : World → ℕ
view_at w = w.n - w.t

abbrev pub thresholds_of : World → Thresholds
thresholds_of w = record { echo = echo_at w; admit = admit_at w; view = view_at w }

-- 2: "n outside 2..32"
abbrev pub bad_hosts : World → Bool
bad_hosts w = ltb w.n 2 || ltb 32 w.n

-- 3: "n ≤ 3t"
abbrev pub bad_liars : World → Bool
bad_liars w = leb w.n (3 * w.t)

-- "A direct call given n and t gives 2, then 3"
abbrev pub world_guards : World → List Guard
world_guards w = (2 when bad_hosts w) ∷ (3 when bad_liars w) ∷ []

unfoldable pub checking : World → Answer Thresholds
checking w = guarded (world_guards w) (thresholds_of w)

-- the promise of `world_of`
abbrev pub Makes : ℕ → ℕ → World → Type 0
Makes n t world = world ≡ world_of n t

-- the promise of `check`
abbrev pub Checks : World → Result Thresholds Refusal → Type 0
Checks world result = says result ≡ checking world
