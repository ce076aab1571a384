-- Demand 3, of a run as `run` defines it: its hosts, what has happened to them, and what holds of every run file after any number of its events.
-- `always_safe` (proofs/Safe.antt) proves `AlwaysSafe`.
use Rattle.std.specs.Prelude.{ℕ, zero, suc, ◌+◌, ◌≤◌, ◌<◌, ◌≡◌, false, List, [], ◌∷◌, eqb, take, replicate}
use Rattle.answer.specs.Answer.{accepted}
use Rattle.frame.specs.declared.Frame.{Frame}
use Rattle.quorum.specs.Count.{one, count}
use Rattle.host.specs.Record.{broken, lying}
use Rattle.run.specs.Starting.{starting, rest_by}
use Rattle.run.specs.Playing.{pieces, host_at, after}
use Rattle.run.specs.Broadcasts.{broadcasts}
use Rattle.run.specs.declared.Run.{Run}

-- ---- The hosts, as the file has them

-- host i is honest
abbrev pub Honest : Run → ℕ → Type 0
Honest first i = (i < first.world.n) × (lying (host_at first i) ≡ false)

-- how many hosts lie
abbrev pub liars : Run → ℕ
liars first = count first.world.n (λ i. lying (host_at first i))

-- host i's proposal: "the estimate, at first the proposal"
abbrev pub proposal : Run → ℕ → ℕ
proposal first i = (host_at first i).est

-- no two honest proposals differ
abbrev pub Equal : Run → Type 0
Equal first = (i j : ℕ) → Honest first i → Honest first j → proposal first i ≡ proposal first j

-- ---- What has happened

-- host i has decided v, which is 0 or 1
abbrev pub Decided : Run → ℕ → ℕ → Type 0
Decided now i v = ((host_at now i).decision ≡ v) × (v < 2)

-- how many of these frames are of round r
unfoldable pub in_round : ℕ → List Frame → ℕ
in_round r [] = 0
in_round r (f ∷ frames) = one (eqb f.round r) + in_round r frames

-- a sum over the rounds 1 to k
unfoldable pub over_rounds : ℕ → (ℕ → ℕ) → ℕ
over_rounds zero f = 0
over_rounds (suc k) f = over_rounds k f + f (suc k)

-- ---- Demand 3

-- of a run that started as `first` and is `now`, in which host i has broadcast `frames i`, each frame counted once whoever it reaches
pub record Safe (first now : Run) (frames : ℕ → List Frame) : Type 0 where
  -- no two honest hosts have decided differently
  pub agreement : (i j u v : ℕ) → Honest first i → Honest first j → Decided now i u → Decided now j v → u ≡ v
  -- each decision of an honest host was some honest host's proposal
  pub validity : (i v : ℕ) → Honest first i → Decided now i v → (k : ℕ) × Honest first k × (proposal first k ≡ v)
  -- an honest host has broadcast at most 12 frames of a round, at most 8 if all honest proposals were equal
  pub twelve : (i r : ℕ) → Honest first i → in_round r (frames i) ≤ 12
  pub eight : Equal first → (i r : ℕ) → Honest first i → in_round r (frames i) ≤ 8
  -- its sent count is the sum of these over the rounds
  pub sent : (i : ℕ) → Honest first i → (host_at now i).sent ≡ over_rounds 16 (λ r. in_round r (frames i))
  -- no honest host is broken: "At most t liars never cause it"
  pub whole : (i : ℕ) → Honest first i → broken (host_at now i) ≡ false

-- "the whole run table is cleared before the first event"
abbrev pub cleared : List ℕ
cleared = replicate 14336 0

-- the first k events of a file that starts this run, refused ones included
abbrev pub events : ℕ → List ℕ → Run → List (List ℕ)
events k bytes run = take k (pieces (rest_by bytes (accepted run)))

-- of every byte string whose header and host records are accepted, with at most t liars among its hosts: whatever they send, whatever the coins,
-- after any number of events
abbrev pub AlwaysSafe : Type 0
AlwaysSafe = (bytes : List ℕ) (run : Run) → starting bytes ≡ accepted run → liars run ≤ run.world.t
    → (k : ℕ) → Safe run (after run cleared (events k bytes run)).0 (broadcasts run cleared (events k bytes run))
