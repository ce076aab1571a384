-- The words of the vote, for demand 3: values, instances, views; the hosts; what has happened to them, as facts that only grow. No step of a run
-- stands here. Assumes nothing.
use Prim.Native.Nat.{ℕ, ◌*◌, ◌≤◌, ◌<◌}
use mathlib.Core.Path.{◌≡◌, subst}
use mathlib.Core.Bool.{Bool, true, false, not}
use mathlib.Core.Logic.{◌⊎◌, ⊎_elim}
use native.Mathlib.Omega.{arith}
use Rattle.answer.proofs.Tests.{clash}
use Rattle.quorum.specs.Count.{count}

-- ---- Values, instances, views

pub data Val : Type 0 where
  v0 v1 neither : Val

pub data Phase : Type 0 where
  phase1 phase2 : Phase

-- where an instance stands in its round: the stage of a phase. A round, counted from 0, and a slot are an instance.
pub data Slot : Type 0 where
  stage0 stage1 : Phase → Slot

-- 0 or 1
abbrev pub Bit : Val → Type 0
Bit v0 = Unit {0}
Bit v1 = Unit {0}
Bit neither = ⊥

-- a view: the set of its values
abbrev pub View : Type 0
View = Val → Bool

-- v is the one value of the view
abbrev pub Only : View → Val → Type 0
Only W v = (W v ≡ true) × ((w : Val) → W w ≡ true → w ≡ v)

-- ---- The hosts

-- n hosts of which at most t lie, and the coin of each host and round
pub record Vote : Type 0 where
  pub n : ℕ
  pub t : ℕ
  pub big : 3 * t < n
  pub honest : ℕ → Bool
  pub few : count n (λ x. not (honest x)) ≤ t
  pub coin : ℕ → ℕ → Val
  pub coin_bit : (i r : ℕ) → Bit (coin i r)

abbrev pub Honest : Vote → ℕ → Type 0
Honest C i = (i < C.n) × (C.honest i ≡ true)

-- ---- What has happened

-- at a host: it made a proposal; it completed the instance at slot q of round r with the view W
pub data Fact : Type 0 where
  made : Val → Fact
  saw : ℕ → Slot → View → Fact

-- which facts hold of which hosts
abbrev pub History : Type 1
History = ℕ → Fact → Type 0

abbrev pub Grows : History → History → Type 0
Grows D E = (i : ℕ) (f : Fact) → D i f → E i f

-- one fact more
pub data Add (D : History) (i : ℕ) (f : Fact) : ℕ → Fact → Type 0 where
  old : {a : ℕ} {g : Fact} → D a g → Add D i f a g
  new : Add D i f i f

-- v was proposed by an honest host
pub record Made (C : Vote) (D : History) (v : Val) : Type 0 where
  pub host : ℕ
  pub honest : Honest C host
  pub said : D host (made v)

-- no two honest proposals differ
abbrev pub Equal : Vote → History → Type 0
Equal C D = (u w : Val) → Made C D u → Made C D w → u ≡ w

-- ---- Rules

-- with which own values a host may enter an instance, given what has happened: "After the view". What it may, it may for ever.
pub record Rule : Type 1 where
  pub Enters : History → ℕ → ℕ → Slot → Val → Type 0
  pub keeps : (D E : History) → Grows D E → (i r : ℕ) (q : Slot) (v : Val) → Enters D i r q v → Enters E i r q v

-- all that the rule's theorems use of a run: any two views of one instance share a value, and each value of a view is the own value with which
-- some host entered the instance
pub record Sound (D : History) (Enters : ℕ → ℕ → Slot → Val → Type 0) : Type 0 where
  pub meet : {i j r : ℕ} {q : Slot} {W X : View} → D i (saw r q W) → D j (saw r q X) → (v : Val) × (W v ≡ true) × (X v ≡ true)
  pub just : {i r : ℕ} {q : Slot} {W : View} {v : Val} → D i (saw r q W) → W v ≡ true → (k : ℕ) × Enters k r q v

-- not all three values are entered with; no two are
abbrev pub NotThree : (ℕ → ℕ → Slot → Val → Type 0) → ℕ → Slot → Type 0
NotThree Enters r q = (i j k : ℕ) → Enters i r q v0 → Enters j r q v1 → Enters k r q neither → ⊥

abbrev pub NotTwo : (ℕ → ℕ → Slot → Val → Type 0) → ℕ → Slot → Type 0
NotTwo Enters r q = (i j : ℕ) (v w : Val) → Enters i r q v → Enters j r q w → v ≡ w

-- ---- Values are three

pub not_both : (v : Val) → v0 ≡ v → v1 ≡ v → ⊥
not_both v a b = let z : ◌≡◌ {A = ℕ} 0 1 = cc in omega arith

pub not_bit : (v : Val) → v ≡ neither → Bit v → ⊥
not_bit v e b = subst Bit e b

-- ---- Views of one value

-- a view that has a value, and none but v, is of v alone
pub alone : (W : View) (v x : Val) → W x ≡ true → (v0 ≡ v) ⊎ (W v0 ≡ false) → (v1 ≡ v) ⊎ (W v1 ≡ false) → (neither ≡ v) ⊎ (W neither ≡ false)
    → Only W v
alone W v x h a b c = (rw (all x h) at h, all)
  where
    is : (w : Val) → (w ≡ v) ⊎ (W w ≡ false) → W w ≡ true → w ≡ v
    is w o g = ⊎_elim (λ e. e) (clash g) o

    all : (w : Val) → W w ≡ true → w ≡ v
    all v0 = is v0 a
    all v1 = is v1 b
    all neither = is neither c
