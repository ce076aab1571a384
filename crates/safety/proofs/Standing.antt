-- Where a host stands follows from what it has completed: "After the view", held against the rule of the history. Assumes nothing.
use Prim.Native.Nat.{ℕ, zero, suc, ◌+◌, ◌-◌, ◌≤◌, ◌<◌}
use mathlib.Core.Path.{◌≡◌, refl, sym, ap, subst, ◌∙◌}
use mathlib.Core.Bool.{Bool, true, false, ◌&&◌, not-eq-not}
use mathlib.Core.Logic.{inl, inr}
use native.Mathlib.Decide.{dec_lt, ℕ_discrete}
use native.Mathlib.Omega.{arith}
use Rattle.answer.proofs.Tests.{clash}
use Rattle.quorum.specs.Sets.{member}
use Rattle.host.specs.Record.{coin, Valid}
use Rattle.host.specs.declared.Host.{Host}
use Rattle.view.specs.View.{only_of, after_view}
use Rattle.view.proofs.Views.{only_zero, only_one, only_neither, only_low, first_own, phase_follows, single_estimate, coin_estimate}
use Rattle.view.proofs.Views.{round_follows, round_ends, seen_estimate, decides_only, decision_stays}
use Rattle.safety.proofs.Votes.{Val, v0, v1, neither, Phase, phase1, phase2, stage0, stage1, Bit, View, Only, Vote, History, saw, Grows, Sound, alone}
use Rattle.safety.proofs.Phases.{In, same, mixed, single, toss, seen, kept, in_mono, Decided, in_bit}
use Rattle.safety.proofs.Reading.{num, val_of, phase_of, slot_at}

-- ---- Views as words

-- the values of a view that is a word
abbrev pub viewed : ℕ → View
viewed view v = member view (num v)

-- the one value of a view is what `only_of` gives
lone : (view : ℕ) (v : Val) → Bit v → only_of view ≡ num v → Only (viewed view) v
lone view v0 b e = let (x, y, z) = only_zero view e in alone (viewed view) v0 v0 x (inl refl) (inr y) (inr z)
lone view v1 b e = let (x, y, z) = only_one view e in alone (viewed view) v1 v1 y (inr x) (inl refl) (inr z)
lone view neither b e = absurd b

-- a view that has a value, but neither 0 nor 1, is of neither alone
neither_alone : (view : ℕ) (v : Val) → viewed view v ≡ true → member view 0 ≡ false → member view 1 ≡ false → Only (viewed view) neither
neither_alone view v h x y = alone (viewed view) neither v h (inr x) (inr y) (inl refl)

apart : {a b : Val} → (num a ≡ num b → ⊥) → a ≡ b → ⊥
apart n e = n (ap num e)

-- where `only_of` gives neither, the view is not of one value 0 or 1
not_lone : (view : ℕ) → view < 8 → only_of view ≡ 2 → (v : Val) → Bit v → Only (viewed view) v → ⊥
not_lone view l e v0 b (h, f) =
    (only_neither view l e).0 h (not-eq-not.0 (λ g. apart (λ z. omega arith) (f v1 g))) (not-eq-not.0 (λ g. apart (λ z. omega arith) (f neither g)))
not_lone view l e v1 b (h, f) =
    (only_neither view l e).1 (not-eq-not.0 (λ g. apart (λ z. omega arith) (f v0 g))) h (not-eq-not.0 (λ g. apart (λ z. omega arith) (f neither g)))
not_lone view l e neither b o = b

-- ---- With what a host goes on

-- host i has completed an instance of round r with the view
module _ (C : Vote) (E : History) (S : Sound E (In C E)) (i r view : ℕ) (small : view < 8) where
  -- stage 0 has no neither
  no_neither : (p : Phase) → E i (saw r (stage0 p) (viewed view)) → member view 2 ≡ false
  no_neither p d = not-eq-not.0 (λ h. in_bit C E S (S.just {v = neither} d h).1)

  -- "Stage 0: one value v gives v as the own value of stage 1; two values give "neither""
  first_in : (p : Phase) → E i (saw r (stage0 p) (viewed view)) → In C E i r (stage1 p) (val_of (only_of view))
  first_in p d = go (only_of view) refl (only_low view)
    where
      both : only_of view ≡ 2 → (a b : Bool) → member view 0 ≡ a → member view 1 ≡ b → In C E i r (stage1 p) neither
      both e true true x y = mixed d x y
      both e true false x y = absurd ((only_neither view small e).0 x y (no_neither p d))
      both e false true x y = absurd ((only_neither view small e).1 x y (no_neither p d))
      both e false false x y = let (v, h, _) = S.meet d d in clash (neither_alone view v h x y).0 (no_neither p d)

      go : (o : ℕ) → only_of view ≡ o → o < 3 → In C E i r (stage1 p) (val_of o)
      go zero e l = same d (lone view v0 tt e)
      go (suc zero) e l = same d (lone view v1 tt e)
      go (suc (suc zero)) e l = both e (member view 0) (member view 1) refl refl
      go (suc (suc (suc o))) e l = absurd (omega arith)

  -- "Stage 1, phase 1: a view of one value 0 or 1 becomes the estimate .."
  single_in : E i (saw r (stage1 phase1) (viewed view)) → (only_of view ≡ 2 → ⊥) → In C E i r (stage0 phase2) (val_of (only_of view))
  single_in d n = go (only_of view) refl (only_low view)
    where
      go : (o : ℕ) → only_of view ≡ o → o < 3 → In C E i r (stage0 phase2) (val_of o)
      go zero e l = single d tt (lone view v0 tt e)
      go (suc zero) e l = single d tt (lone view v1 tt e)
      go (suc (suc zero)) e l = absurd (n e)
      go (suc (suc (suc o))) e l = absurd (omega arith)

  -- ".. otherwise the estimate is the host's coin bit of that round"
  toss_in : E i (saw r (stage1 phase1) (viewed view)) → only_of view ≡ 2 → In C E i r (stage0 phase2) (C.coin i r)
  toss_in d e = toss d (not_lone view small e)

  -- "Stage 1, phase 2: only v (0 or 1) decides v .."
  decided_in : E i (saw r (stage1 phase2) (viewed view)) → (v : ℕ) → v < 2 → only_of view ≡ v → Decided E i (val_of v)
  decided_in d zero l e = record { round = r; view = viewed view; done = d; bit = tt; only = lone view v0 tt e }
  decided_in d (suc zero) l e = record { round = r; view = viewed view; done = d; bit = tt; only = lone view v1 tt e }
  decided_in d (suc (suc v)) l e = absurd (omega arith)

  -- ".. v and neither makes the estimate v; only neither changes nothing"
  round_in : (est new : ℕ) → E i (saw r (stage1 phase2) (viewed view)) → In C E i r (stage0 phase2) (val_of est)
      → (member view 0 ≡ true → new ≡ 0) → (member view 1 ≡ true → new ≡ 1) → (member view 0 ≡ false → member view 1 ≡ false → new ≡ est)
      → In C E i (suc r) (stage0 phase1) (val_of new)
  round_in est new d x is-0 is-1 none = go (member view 0) (member view 1) refl refl
    where
      go : (a b : Bool) → member view 0 ≡ a → member view 1 ≡ b → In C E i (suc r) (stage0 phase1) (val_of new)
      go true b e f = rw (is-0 e) (seen {v = v0} d tt e)
      go false true e f = rw (is-1 f) (seen {v = v1} d tt f)
      go false false e f = let (v, h, _) = S.meet d d in rw (none e f) (kept d (neither_alone view v h e f) x)

-- ---- Where a host stands

-- the own value of a host that votes is one with which it may enter its instance, its estimate that of its phase; it has decided what it may have
-- decided; it is not broken
pub record Stand (C : Vote) (D : History) (i : ℕ) (h : Host) : Type 0 where
  pub own_in : h.standing ≡ 0 → In C D i (h.round - 1) (slot_at h.phase h.stage) (val_of h.own)
  pub est_in : h.standing ≡ 0 → h.phase ≡ 2 → h.stage ≡ 1 → In C D i (h.round - 1) (stage0 phase2) (val_of h.est)
  pub dec_in : (v : ℕ) → v < 2 → h.decision ≡ v → Decided D i (val_of v)
  pub whole : h.standing ≡ 2 → ⊥

dec_mono : {D E : History} → Grows D E → {i : ℕ} {v : Val} → Decided D i v → Decided E i v
dec_mono k d = record { round = d.round; view = d.view; done = k _ _ d.done; bit = d.bit; only = d.only }

-- it stands so whatever else happens
pub stand_mono : {C : Vote} (D E : History) → Grows D E → {i : ℕ} {h : Host} → Stand C D i h → Stand C E i h
stand_mono D E k z = record {
  own_in = λ m. in_mono D E k (z.own_in m);
  est_in = λ m p s. in_mono D E k (z.est_in m p s);
  dec_in = λ v l e. dec_mono k (z.dec_in v l e);
  whole = z.whole;
}

-- host i, that votes and stands so by the history D, completes its instance with the view
module _ (C : Vote) (D E : History) (k : Grows D E) (S : Sound E (In C E)) (i view : ℕ) (small : view < 8) (h : Host) (ranged : Valid h)
    (votes : h.standing ≡ 0) (z : Stand C D i h) (d : E i (saw (h.round - 1) (slot_at h.phase h.stage) (viewed view)))
    (tossed : val_of (coin h) ≡ C.coin i (h.round - 1)) (unsplit : h.stage ≡ 1 → member view 0 && member view 1 ≡ false) where
  abbrev next : Host
  next = after_view h view

  -- what it has decided it had, or decides by this view
  dec_after : (v : ℕ) → v < 2 → next.decision ≡ v → Decided E i (val_of v)
  dec_after v l e = go (ℕ_discrete h.decision 2)
    where
      go : Dec (h.decision ≡ 2) → Decided E i (val_of v)
      go (no n) = dec_mono k (z.dec_in v l (sym (decision_stays h view n) ∙ e))
      go (yes n) =
          let (s, p, o) = decides_only h view n (λ q. omega arith) in
          let stage : h.stage ≡ 1 = omega (arith, ranged.stage) in
          let phase : h.phase ≡ 2 = omega (arith, ranged.phase_low, ranged.phase_high) in
          decided_in C E S i (h.round - 1) view small (rw (stage, phase) at d) v l (sym o ∙ e)

  unbroken : h.standing ≡ 2 → ⊥
  unbroken e = omega arith

  after_first_lem : h.stage ≡ 0 → Stand C E i next
  after_first_lem s = subst (Stand C E i) (sym (first_own h view s)) (record {
    own_in = λ _. first_in C E S i (h.round - 1) view small (phase_of h.phase) (rw s at d);
    est_in = λ m p _. let x = rw (p, s, ranged.same s) at (z.own_in votes) in in_mono D E k x;
    dec_in = λ v l e. dec_mono k (z.dec_in v l e);
    whole = unbroken;
  })

  -- the estimate of phase 2
  phase_est : h.stage ≡ 1 → h.phase ≡ 1 → In C E i (h.round - 1) (stage0 phase2) (val_of next.est)
  phase_est s p = go (ℕ_discrete (only_of view) 2)
    where
      e : E i (saw (h.round - 1) (stage1 phase1) (viewed view))
      e = rw (s, p) at d

      go : Dec (only_of view ≡ 2) → In C E i (h.round - 1) (stage0 phase2) (val_of next.est)
      go (yes o) = rw (coin_estimate h view s p (unsplit s) o, tossed) (toss_in C E S i (h.round - 1) view small e o)
      go (no n) = rw (single_estimate h view s p n) (single_in C E S i (h.round - 1) view small e n)

  after_phase_lem : h.stage ≡ 1 → h.phase ≡ 1 → Stand C E i next
  after_phase_lem s p = subst (Stand C E i) (sym (phase_follows h view s p (unsplit s))) (record {
    own_in = λ _. phase_est s p;
    est_in = λ _ _ e. absurd (omega arith);
    dec_in = λ v l e. dec_mono k (z.dec_in v l e);
    whole = unbroken;
  })

  -- the estimate of the next round
  round_est : h.stage ≡ 1 → h.phase ≡ 2 → In C E i (suc (h.round - 1)) (stage0 phase1) (val_of next.est)
  round_est s p =
      let (is-0, is-1, none, _) = seen_estimate h view s p (unsplit s) in
      round_in C E S i (h.round - 1) view small h.est next.est (rw (s, p) at d) (in_mono D E k (z.est_in votes p s)) is-0 is-1 none

  after_round_lem : h.stage ≡ 1 → h.phase ≡ 2 → h.round < 16 → Stand C E i next
  after_round_lem s p l =
      let later : suc (h.round - 1) ≡ h.round + 1 - 1 = omega (arith, ranged.round_low) in
      subst (Stand C E i) (sym (round_follows h view s p (unsplit s) l)) (record {
        own_in = λ _. rw later at (round_est s p);
        est_in = λ _ _ e. absurd (omega arith);
        dec_in = dec_after;
        whole = unbroken;
      })

  after_last : h.stage ≡ 1 → h.phase ≡ 2 → 16 ≤ h.round → Stand C E i next
  after_last s p l = subst (Stand C E i) (sym (round_ends h view s p (unsplit s) l)) (record {
    own_in = λ e. absurd (omega arith);
    est_in = λ e. absurd (omega arith);
    dec_in = dec_after;
    whole = λ e. omega arith;
  })

  -- it stands so after the view
  pub stand_after : Stand C E i next
  stand_after = go (ℕ_discrete h.stage 0) (ℕ_discrete h.phase 1) (dec_lt h.round 16)
    where
      stage : (h.stage ≡ 0 → ⊥) → h.stage ≡ 1
      stage n = omega (arith, ranged.stage)

      phase : (h.phase ≡ 1 → ⊥) → h.phase ≡ 2
      phase n = omega (arith, ranged.phase_low, ranged.phase_high)

      go : Dec (h.stage ≡ 0) → Dec (h.phase ≡ 1) → Dec (h.round < 16) → Stand C E i next
      go (yes s) p r = after_first_lem s
      go (no s) (yes p) r = after_phase_lem (stage s) p
      go (no s) (no p) (yes r) = after_round_lem (stage s) (phase p) r
      go (no s) (no p) (no r) = after_last (stage s) (phase p) (omega arith)
