-- The rule of two phases to a round, and its theorems, from histories alone: no two decisions differ, each is a proposal, an instance is never
-- entered with three values, and with equal proposals with one. The paper's Lemmas 1
-- to 3. Assumes nothing.
use Prim.Native.Nat.{ℕ, zero, suc, ◌+◌, ◌-◌, ◌≤◌, ◌<◌, zero-le}
use mathlib.Core.Path.{◌≡◌, refl, sym, ◌∙◌}
use mathlib.Core.Bool.{Bool, true, false}
use mathlib.Core.Logic.{inl, inr}
use native.Mathlib.Decide.{dec_lt}
use native.Mathlib.Nat.{zero-add}
use native.Mathlib.Omega.{arith}
use Rattle.safety.proofs.Votes.{Val, v0, v1, neither, Phase, phase1, phase2, Slot, stage0, stage1, Bit, View, Only, Vote, Honest, History, made, saw, Grows, Made, Equal, Rule, Sound, NotThree, NotTwo, not_both, not_bit, alone}

-- ---- The rule

-- with which own value a host may enter an instance, a constructor for each sentence of "After the view". The last one says more than document
-- 01: a host that has decided v may be taken to enter every later instance with v, whatever else it does there. The theorems hold all the same.
pub data In (C : Vote) (D : History) : ℕ → ℕ → Slot → Val → Type 0 where
  first : {i : ℕ} {v : Val} → Honest C i → Bit v → D i (made v) → In C D i 0 (stage0 phase1) v
  same : {i r : ℕ} {p : Phase} {W : View} {v : Val} → D i (saw r (stage0 p) W) → Only W v → In C D i r (stage1 p) v
  mixed : {i r : ℕ} {p : Phase} {W : View} → D i (saw r (stage0 p) W) → W v0 ≡ true → W v1 ≡ true → In C D i r (stage1 p) neither
  single : {i r : ℕ} {W : View} {v : Val} → D i (saw r (stage1 phase1) W) → Bit v → Only W v → In C D i r (stage0 phase2) v
  toss : {i r : ℕ} {W : View} → D i (saw r (stage1 phase1) W) → ((v : Val) → Bit v → Only W v → ⊥) → In C D i r (stage0 phase2) (C.coin i r)
  seen : {i r : ℕ} {W : View} {v : Val} → D i (saw r (stage1 phase2) W) → Bit v → W v ≡ true → In C D i (suc r) (stage0 phase1) v
  kept : {i r : ℕ} {W : View} {v : Val} → D i (saw r (stage1 phase2) W) → Only W neither → In C D i r (stage0 phase2) v → In C D i (suc r) (stage0 phase1) v
  decided : {i r k : ℕ} {q : Slot} {W : View} {v : Val} → D i (saw k (stage1 phase2) W) → Bit v → Only W v → k < r → In C D i r q v

pub in_mono : {C : Vote} (D E : History) {i r : ℕ} {q : Slot} {v : Val} → Grows D E → In C D i r q v → In C E i r q v
in_mono D E k (first h b d) = first h b (k _ _ d)
in_mono D E k (same d o) = same (k _ _ d) o
in_mono D E k (mixed d x y) = mixed (k _ _ d) x y
in_mono D E k (single d b o) = single (k _ _ d) b o
in_mono D E k (toss d f) = toss (k _ _ d) f
in_mono D E k (seen d b x) = seen (k _ _ d) b x
in_mono D E k (kept d o x) = kept (k _ _ d) o (in_mono D E k x)
in_mono D E k (decided d b o l) = decided (k _ _ d) b o l

abbrev pub phases : Vote → Rule
phases C = record { Enters = In C; keeps = λ D E k i r q v z. in_mono D E k z }

-- host i decided v: in some round its view of phase 2, stage 1 was v alone
pub record Decided (D : History) (i : ℕ) (v : Val) : Type 0 where
  pub round : ℕ
  pub view : View
  pub done : D i (saw round (stage1 phase2) view)
  pub bit : Bit v
  pub only : Only view v

-- ---- What is passed on from instance to instance

-- every host that enters the instance enters it with a value of P
abbrev All : Vote → History → ℕ → Slot → (Val → Type 0) → Type 0
All C D r q P = (i : ℕ) (w : Val) → In C D i r q w → P w

-- a property of values that the rules pass on
record Closed (C : Vote) (P : Val → Type 0) : Type 0 where
  mix : P v0 → P v1 → P neither
  coin : (i r : ℕ) (W : View) (x : Val) → W x ≡ true → ((w : Val) → W w ≡ true → P w) → ((v : Val) → Bit v → Only W v → ⊥) → P (C.coin i r)

module _ (C : Vote) (D : History) (S : Sound D (In C D)) where
  view_all : {r : ℕ} {q : Slot} {P : Val → Type 0} {i : ℕ} {W : View} {w : Val} → All C D r q P → D i (saw r q W) → W w ≡ true → P w
  view_all a d h = a _ _ (S.just d h).1

  module _ (P : Val → Type 0) (K : Closed C P) where
    all_stage1 : {r : ℕ} {p : Phase} → All C D r (stage0 p) P → All C D r (stage1 p) P
    all_stage1 a i w (same d o) = view_all {P = P} a d o.0
    all_stage1 a i w (mixed d x y) = K.mix (view_all {P = P} a d x) (view_all {P = P} a d y)
    all_stage1 a i w (decided d b o l) = a i w (decided d b o l)

    all_phase2 : {r : ℕ} → All C D r (stage1 phase1) P → All C D r (stage0 phase2) P
    all_phase2 a i w (single d b o) = view_all {P = P} a d o.0
    all_phase2 a i w (toss {r} {W} d f) = let (x, h, _) = S.meet d d in K.coin i r W x h (λ w g. view_all {P = P} a d g) f
    all_phase2 a i w (decided d b o l) = a i w (decided d b o l)

    all_next : {r : ℕ} → All C D r (stage0 phase2) P → All C D r (stage1 phase2) P → All C D (suc r) (stage0 phase1) P
    all_next a₀ a i w (seen d b h) = view_all {P = P} a d h
    all_next a₀ a i w (kept d o x) = a₀ i w x
    all_next {r} a₀ a i w (decided {k} d b o l) =
        elim (dec_lt k r) [
          | yes g ↦ a i w (decided d b o g)
          | no g ↦ let e : k ≡ r = omega arith in view_all {P = P} a (rw e at d) o.0
        ]

    all_slot : {r : ℕ} → All C D r (stage0 phase1) P → (q : Slot) → All C D r q P
    all_slot a (stage0 phase1) = a
    all_slot a (stage1 phase1) = all_stage1 a
    all_slot a (stage0 phase2) = all_phase2 (all_stage1 a)
    all_slot a (stage1 phase2) = all_stage1 (all_phase2 (all_stage1 a))

    all_later : (r k : ℕ) → All C D r (stage0 phase1) P → All C D (k + r) (stage0 phase1) P
    all_later r zero a = rw zero-add a
    all_later r (suc k) a =
        let e : suc k + r ≡ suc (k + r) = omega arith in
        let b = all_later r k a in
        rw e (all_next (all_slot b (stage0 phase2)) (all_slot b (stage1 phase2)))

    -- what all have once, all have for ever
    all_from : {r s : ℕ} → r ≤ s → All C D r (stage0 phase1) P → (q : Slot) → All C D s q P
    all_from {r} {s} l a = let e : (s - r) + r ≡ s = omega arith in all_slot (rw e at (all_later r (s - r) a))

  -- ---- Agreement

  -- to be v is passed on
  is_closed : (v : Val) → Bit v → Closed C (λ w. w ≡ v)
  is_closed v b = record {
    mix = λ x y. absurd (not_both v x y);
    coin = λ i r W x h f none. absurd (none v b (rw (f x h) at h, f));
  }

  -- a decision in round r fixes what all enter the next round with
  abbrev Lock : ℕ → Type 0
  Lock r = (i : ℕ) (v : Val) (W : View) → D i (saw r (stage1 phase2) W) → Bit v → Only W v → All C D (suc r) (stage0 phase1) (λ w. w ≡ v)

  -- after a decision in an earlier round all enter with its value
  late : (r : ℕ) (L : (k : ℕ) → k < r → Lock k) {k i : ℕ} {v : Val} {W : View} → k < r → D i (saw k (stage1 phase2) W) → Bit v → Only W v
      → (q : Slot) → All C D r q (λ w. w ≡ v)
  late r L {k} {i} {v} {W} l d b o q = all_from (λ w. w ≡ v) (is_closed v b) l (L k l i v W d b o) q

  -- the own values of a stage 1 hold at most one of 0 and 1
  one_bit : (r : ℕ) (L : (k : ℕ) → k < r → Lock k) {i j : ℕ} {p : Phase} {v w : Val} → In C D i r (stage1 p) v → In C D j r (stage1 p) w → Bit v
      → Bit w → v ≡ w
  one_bit r L (same d o) (same e u) b c = let (x, h, g) = S.meet d e in sym (o.1 x h) ∙ u.1 x g
  one_bit r L (same d o) (mixed _ _ _) b c = absurd c
  one_bit r L (same d o) (decided e c u l) _ _ = late r L l e c u (stage1 _) _ _ (same d o)
  one_bit r L (mixed _ _ _) z b c = absurd b
  one_bit r L (decided d b o l) z _ _ = sym (late r L l d b o (stage1 _) _ _ z)

  mutex : (r : ℕ) (L : (k : ℕ) → k < r → Lock k) {i j : ℕ} {p : Phase} {v w : Val} {W X : View} → D i (saw r (stage1 p) W)
      → D j (saw r (stage1 p) X) → Bit v → Bit w → W v ≡ true → X w ≡ true → v ≡ w
  mutex r L d e b c h g = one_bit r L (S.just d h).1 (S.just e g).1 b c

  lock : (r : ℕ) (L : (k : ℕ) → k < r → Lock k) → Lock r
  lock r L _ v W d b o i w (seen e c h) = mutex r L e d c b h o.0
  lock r L _ v W d b o i w (kept e u _) =
      let (x, h, g) = S.meet d e in absurd (not_bit v (sym (o.1 x h) ∙ u.1 x g) b)
  lock r L _ v W d b o i w (decided {k} e c u l) =
      elim (dec_lt k r) [
        | yes g ↦ sym (view_all {P = λ x. x ≡ w} (late r L g e c u (stage1 phase2)) d o.0)
        | no g ↦ let x : k ≡ r = omega arith in mutex r L (rw x at e) d c b u.0 o.0
      ]

  locks : (r k : ℕ) → k < r → Lock k
  locks zero k l = absurd (omega arith)
  locks (suc r) k l =
      elim (dec_lt k r) [
        | yes g ↦ locks r k g
        | no g ↦ let e : k ≡ r = omega arith in rw e (lock r (locks r))
      ]

  -- a view of a stage 1 holds at most one of 0 and 1
  pub bits_one : {r i j : ℕ} {p : Phase} {v w : Val} → In C D i r (stage1 p) v → In C D j r (stage1 p) w → Bit v → Bit w → v ≡ w
  bits_one {r} x y b c = one_bit r (locks r) x y b c

  agree_later : {i j : ℕ} {v w : Val} (d : Decided D i v) (e : Decided D j w) → d.round < e.round → w ≡ v
  agree_later {v} d e l =
      view_all {P = λ x. x ≡ v} (late e.round (locks e.round) l d.done d.bit d.only (stage1 phase2)) e.done e.only.0

  agree_same : {i j : ℕ} {v w : Val} (d : Decided D i v) (e : Decided D j w) → d.round ≡ e.round → w ≡ v
  agree_same d e l = mutex _ (locks _) e.done (rw l at d.done) e.bit d.bit e.only.0 d.only.0

  -- no two hosts decide differently [the paper's Lemma 3]
  pub agreement : {i j : ℕ} {v w : Val} → Decided D i v → Decided D j w → w ≡ v
  agreement d e =
      elim (dec_lt d.round e.round) [
        | yes l ↦ agree_later d e l
        | no h ↦ elim (dec_lt e.round d.round) [
          | yes l ↦ sym (agree_later e d l)
          | no g ↦ agree_same d e (omega arith)
        ]
      ]

  -- ---- Validity

  -- to come from honest proposals is passed on
  abbrev From : Val → Type 0
  From v0 = Made C D v0
  From v1 = Made C D v1
  From neither = Made C D v0 × Made C D v1

  from_made : (v : Val) → Bit v → Made C D v → From v
  from_made v0 b m = m
  from_made v1 b m = m
  from_made neither b m = absurd b

  made_from : (v : Val) → Bit v → From v → Made C D v
  made_from v0 b m = m
  made_from v1 b m = m
  made_from neither b m = absurd b

  from_both : (v : Val) → Made C D v0 → Made C D v1 → From v
  from_both v0 x y = x
  from_both v1 x y = y
  from_both neither x y = (x, y)

  from_closed : Closed C From
  from_closed = record {
    mix = λ x y. (x, y);
    coin = λ i r W x h f none. go i r W x h f none (W v0) (W v1) (W neither) refl refl refl;
  }
    where
      go : (i r : ℕ) (W : View) (x : Val) → W x ≡ true → ((w : Val) → W w ≡ true → From w) → ((v : Val) → Bit v → Only W v → ⊥)
          → (a b c : Bool) → W v0 ≡ a → W v1 ≡ b → W neither ≡ c → From (C.coin i r)
      go i r W x h f none a b true e₀ e₁ e₂ = let (m, k) = f neither e₂ in from_both (C.coin i r) m k
      go i r W x h f none true true false e₀ e₁ e₂ = from_both (C.coin i r) (f v0 e₀) (f v1 e₁)
      go i r W x h f none a false false e₀ e₁ e₂ = absurd (none v0 tt (alone W v0 x h (inl refl) (inr e₁) (inr e₂)))
      go i r W x h f none false true false e₀ e₁ e₂ = absurd (none v1 tt (alone W v1 x h (inr e₀) (inl refl) (inr e₂)))

  from_first : All C D 0 (stage0 phase1) From
  from_first i w (first h b d) = from_made w b (record { host = i; honest = h; said = d })
  from_first i w (decided d b o l) = absurd (omega arith)

  -- every decision is an honest proposal [Lemma 1]
  pub validity : (i : ℕ) (v : Val) → Decided D i v → Made C D v
  validity i v d = made_from v d.bit (view_all {P = From} (all_from From from_closed zero-le from_first (stage1 phase2)) d.done d.only.0)

  -- ---- Equal proposals

  -- to be 0 or 1 and an honest proposal is passed on where no two honest proposals differ [Lemma 2]
  abbrev Backed : Val → Type 0
  Backed v = Bit v × Made C D v

  back_closed : Equal C D → Closed C Backed
  back_closed q = record {
    mix = λ x y. absurd (not_both v1 (q v0 v1 x.1 y.1) refl);
    coin = λ i r W x h f none. absurd (none x (f x h).0 (h, λ w g. q w x (f w g).1 (f x h).1));
  }

  back_first : All C D 0 (stage0 phase1) Backed
  back_first i w (first h b d) = (b, record { host = i; honest = h; said = d })
  back_first i w (decided d b o l) = absurd (omega arith)

  equal_all : Equal C D → (r : ℕ) (q : Slot) → All C D r q Backed
  equal_all e r q = all_from Backed (back_closed e) zero-le back_first q

  pub equal_two : Equal C D → (r : ℕ) (q : Slot) → NotTwo (In C D) r q
  equal_two e r q i j v w x y = e v w (equal_all e r q i v x).1 (equal_all e r q j w y).1

  -- ---- How many values an instance has

  -- what hosts enter a stage 0 with is 0 or 1
  pub in_bit : {i r : ℕ} {p : Phase} {v : Val} → In C D i r (stage0 p) v → Bit v
  in_bit (first _ b _) = b
  in_bit (single _ b _) = b
  in_bit (toss {i} {r} _ _) = C.coin_bit i r
  in_bit (seen _ b _) = b
  in_bit (kept _ _ x) = in_bit x
  in_bit (decided _ b _ _) = b

  -- no instance is entered with three values
  pub not_three : (r : ℕ) (q : Slot) → NotThree (In C D) r q
  not_three r (stage0 p) i j k a b c = in_bit c
  not_three r (stage1 p) i j k a b c = not_both v1 (bits_one a b tt tt) refl
