-- A turn of an honest host is a step of the vote: each move has the reason that the vote asks for. Assumes nothing.
use Prim.Native.Nat.{ℕ, ◌+◌, ◌-◌, ◌/◌, ◌%◌, ◌≤◌, ◌<◌}
use mathlib.Core.Path.{◌≡◌, refl, sym, subst, ◌∙◌}
use mathlib.Core.Bool.{Bool, true, false, cond, ◌&&◌}
use mathlib.Core.List.{List}
use mathlib.Core.Logic.{inl, inr}
use native.Mathlib.Decide.{ℕ_discrete}
use native.Mathlib.Omega.{arith}
use lib.Dec.{eqb}
use borrow.Author.Tests.{eq-eqb, ne_eqb, eqb-false}
use Rattle.answer.proofs.Tests.{clash}
use Rattle.quorum.specs.Count.{count}
use Rattle.quorum.specs.Sets.{member, size}
use Rattle.quorum.specs.World.{thresholds_of}
use Rattle.quorum.specs.declared.World.{World}
use Rattle.quorum.proofs.Adding.{members_count}
use Rattle.quorum.proofs.Counting.{count_within}
use Rattle.quorum.proofs.Reached.{echo_over, admit_over, view_over}
use Rattle.host.specs.Words.{values, VAL, AUX, senders, marks, sent_bit, admit_bit, begun_bit, mark}
use Rattle.host.specs.Record.{finished, broken, lying, coin, sent_one, Valid}
use Rattle.host.specs.declared.Host.{Host}
use Rattle.view.specs.View.{after_view}
use Rattle.turn.specs.Moves.{witnesses, viewers, heard, view_of, current, chosen}
use Rattle.turn.specs.Applying.{answered, marked_by}
use Rattle.turn.specs.declared.choosing.Move.{Move}
use Rattle.turn.proofs.Choice.{echo_enough, echo_new, admit_enough, admit_new, begin_new, begin_voting, aux_admitted, aux_none, view_enough, view_is, view_voting}
use Rattle.turn.proofs.Viewers.{heard_means, heard_when, viewer_heard, view_values, view_holds, view_small}
use Rattle.turn.proofs.Within.{chosen_in}
use Rattle.run.specs.Playing.{record_after}
use Rattle.safety.proofs.Votes.{Val, phase1, Slot, stage0, Vote, Honest, History, made, saw, Add, old, new, Sound}
use Rattle.safety.proofs.Steps.{Viewed, Reached, step, allows, inv, sound, step_saw}
use Rattle.safety.proofs.Phases.{phases, In}
use Rattle.safety.proofs.Outcome.{never_split}
use Rattle.safety.proofs.Reading.{num, val_of, num_val, num_low, inst, inst_of, inst_at, slot_of, phase_of, slot_at, val, aux, said_val, admits, said_aux, begun, Words, fits, holds, holds_parts, holds_when, fits_low, low_fits, lowest_has, says}
use Rattle.safety.proofs.Putting.{aux_is, Reason}
use Rattle.safety.proofs.Standing.{viewed, Stand, stand_mono, stand_after}
use Rattle.safety.proofs.Voted.{Voted, voted_put, voted_hosts, stand_sent, put_one, put_none}

-- ---- The moves

-- other words for one host
abbrev with : Words → ℕ → List ℕ → Words
with T i words j = cond (eqb j i) words (T j)

-- a turn of host i, honest and in range: the words T before it and U after it, in which those of the other hosts are as they were, and the records H
-- before it
module _ (C : Vote) (proposal : ℕ → Val) (w : World) (same_n : w.n ≡ C.n) (same_t : w.t ≡ C.t) (T U : Words) (H : ℕ → Host) (i : ℕ)
    (g : Honest C i) (ranged : Valid (H i)) (others : (j : ℕ) → (j ≡ i → ⊥) → U j ≡ T j) (z : Voted C proposal T H) where
  -- what the turn chooses
  abbrev pick : Move
  pick = chosen (T i) (H i) (thresholds_of w)

  -- the witnesses of a value are hosts that said it
  counted : (r : ℕ) (q : Slot) (v : Val) → r < 16 → fits q v ≡ true → witnesses (T i) (inst r q) (num v) ≤ count C.n (λ j. holds T i r q (val v j))
  unfolding senders
  counted r q v l f =
      let set = senders (T i) VAL (inst r q) (num v) in
      let heard : (j : ℕ) → member set j ≡ true → holds T i r q (val v j) ≡ true = λ j m. holds_when T i r q (val v j) l f m in
      rw (members_count C.n set (λ j m. z.tidy.val_low i r q v j (heard j m)))
      (count_within C.n (member set) (λ j. holds T i r q (val v j)) (λ j _ m. heard j m))

  -- an echo: more than t hosts sent the value
  echoed : (r : ℕ) (q : Slot) (v : Val) → r < 16 → pick ≡ Move.Echo (inst r q) (num v) → U i ≡ mark (T i) (inst r q) (sent_bit VAL (num v))
      → Voted C proposal U H
  unfolding Reason
  echoed r q v l e u =
      let f = low_fits r q v (echo_new (T i) (H i) (thresholds_of w) (inst r q) (num v) e).0 in
      let many = echo_over w (witnesses (T i) (inst r q) (num v)) (echo_enough (T i) (H i) (thresholds_of w) (inst r q) (num v) e) in
      voted_put z {r = r} {q = q} {x = said_val v} (put_one T U i r q (said_val v) others u) (inr (omega (arith, counted r q v l f)))

  -- an admission: more than 2t did
  admitted : (r : ℕ) (q : Slot) (v : Val) → r < 16 → pick ≡ Move.Admit (inst r q) (num v) → U i ≡ mark (T i) (inst r q) (admit_bit (num v))
      → Voted C proposal U H
  unfolding Reason
  admitted r q v l e u =
      let f = low_fits r q v (admit_new (T i) (H i) (thresholds_of w) (inst r q) (num v) e).0 in
      let many = admit_over w (witnesses (T i) (inst r q) (num v)) (admit_enough (T i) (H i) (thresholds_of w) (inst r q) (num v) e) in
      voted_put z {r = r} {q = q} {x = admits v} (put_one T U i r q (admits v) others u) (omega (arith, counted r q v l f))

  -- an AUX: the host has sent none in the instance
  replied : (r : ℕ) (q : Slot) (v : Val) → pick ≡ Move.Aux (inst r q) (num v) → U i ≡ mark (T i) (inst r q) (sent_bit AUX (num v))
      → Voted C proposal U H
  unfolding Reason marks
  replied r q v e u =
      let (_, _, none, _, _, _) = aux_admitted (T i) (H i) (thresholds_of w) (inst r q) (num v) e in
      voted_put z {r = r} {q = q} {x = said_aux v} (put_one T U i r q (said_aux v) others u)
      (λ o h.
      let (_, f, m) = holds_parts T i r q (said_aux o) h in
      clash m (aux_none (T i) (inst r q) none (num o) (fits_low r q o f)))

  -- ---- In the current instance

  abbrev r₀ : ℕ
  r₀ = (H i).round - 1

  abbrev q₀ : Slot
  q₀ = slot_at (H i).phase (H i).stage

  here : inst r₀ q₀ ≡ current (H i)
  here = inst_at (H i).round (H i).phase (H i).stage ranged.phase_low ranged.phase_high ranged.stage

  -- a begin: the host says the value with which it enters
  begins : pick ≡ Move.Begin (inst r₀ q₀) (num (val_of (H i).own)) → (H i).standing ≡ 0
      → U i ≡ mark (mark (T i) (inst r₀ q₀) begun_bit) (inst r₀ q₀) (sent_bit VAL (num (val_of (H i).own))) → Voted C proposal U H
  unfolding Reason
  begins e votes u =
      let M : Words = with T i (mark (T i) (inst r₀ q₀) begun_bit) in
      let own : M i ≡ mark (T i) (inst r₀ q₀) begun_bit = rw (eq-eqb i i refl) refl in
      let rest : (j : ℕ) → (j ≡ i → ⊥) → M j ≡ T j = λ j n. rw (ne_eqb j i n) refl in
      let y : Voted C proposal M H = voted_put z {r = r₀} {q = q₀} {x = begun} (put_one T M i r₀ q₀ begun rest own) tt in
      voted_put y {r = r₀} {q = q₀} {x = said_val (val_of (H i).own)}
      (put_one M U i r₀ q₀ (said_val (val_of (H i).own)) (λ j n. others j n ∙ sym (rest j n)) (rw own u))
      (inl ((y.stands i g).own_in votes))

  -- ---- The view

  module _ (view : ℕ) (e : pick ≡ Move.View view) where
    abbrev k₀ : ℕ
    k₀ = inst r₀ q₀

    view_here : view ≡ view_of (heard (T i) k₀ 0) (heard (T i) k₀ 1) (heard (T i) k₀ 2)
    view_here = rw here (view_is (T i) (H i) (thresholds_of w) view e)

    round_low : r₀ < 16
    round_low = omega (arith, ranged.round_low, ranged.round_high)

    -- a sender's recorded AUX of an admitted value
    aux_here : (v : Val) (j : ℕ) → num v < values k₀ → member (senders (T i) AUX k₀ (num v)) j ≡ true → holds T i r₀ q₀ (aux v j) ≡ true
    unfolding senders
    aux_here v j l m = holds_when T i r₀ q₀ (aux v j) round_low (low_fits r₀ q₀ v l) m

    admits_here : (v : Val) → num v < values k₀ → member (marks (T i) k₀) (3 + num v) ≡ true → holds T i r₀ q₀ (admits v) ≡ true
    unfolding marks
    admits_here v l m = holds_when T i r₀ q₀ (admits v) round_low (low_fits r₀ q₀ v l) m

    -- who counts for the view
    viewer : (j : ℕ) → member (viewers (T i) k₀) j ≡ true → (v : Val) × (holds T i r₀ q₀ (aux v j) ≡ true) × (holds T i r₀ q₀ (admits v) ≡ true)
    viewer j m =
        let (v, l, a, s) = viewer_heard (T i) k₀ j m in
        let n = num_val v (omega arith) in
        (val_of v, aux_here (val_of v) j (rw n l) (rw n s), admits_here (val_of v) (rw n l) (rw n a))

    seen_by : Viewed C (says T z.hist) i r₀ q₀ (viewed view)
    unfolding says senders marks
    seen_by = record {
      enough =
          let set = viewers (T i) k₀ in
          let all = view_over w (size set) (rw here (view_enough (T i) (H i) (thresholds_of w) view e)) in
          let size_is = members_count C.n set (λ j m. let (v, h, _) = viewer j m in z.tidy.aux_low i r₀ q₀ v j h) in
          omega (
            arith,
            count_within C.n (member set) (λ j. allows ((says T z.hist).adm i r₀ q₀) ((says T z.hist).aux i r₀ q₀ j))
                (λ j _ m. let (v, h, a) = viewer j m in rw (aux_is C z.hist T z.tidy i r₀ q₀ j v h) a),
          );
      from = λ {v} m.
          let (j, h) = view_values (T i) k₀ (num v) (num_low v) (rw view_here at m) in
          let (l, a, s) = heard_means (T i) k₀ (num v) j h in
          (j, aux_is C z.hist T z.tidy i r₀ q₀ j v (aux_here v j l s), admits_here v l a);
      all = λ {j} {v} _ h a.
          let (_, f, m) = holds_parts T i r₀ q₀ (aux v j) (lowest_has (λ v. holds T i r₀ q₀ (aux v j)) v h) in
          let (_, _, b) = holds_parts T i r₀ q₀ (admits v) a in
          rw view_here (view_holds (T i) k₀ (num v) j (num_low v) (heard_when (T i) k₀ (num v) j (fits_low r₀ q₀ v f) b m));
    }

    -- no honest host breaks
    unsplit : (H i).stage ≡ 1 → member view 0 && member view 1 ≡ false
    unsplit s = go (member view 0) (member view 1) refl refl
      where
        go : (a b : Bool) → member view 0 ≡ a → member view 1 ≡ b → a && b ≡ false
        go true true x y = absurd (never_split z.reached i r₀ (phase_of (H i).phase) (viewed view) (rw s at seen_by) x y)
        go true false x y = refl
        go false b x y = refl

    abbrev D₁ : History
    D₁ = Add z.hist i (saw r₀ q₀ (viewed view))

    grown : Reached C (phases C) (says T D₁)
    unfolding says
    grown = step z.reached (step_saw C (phases C) (says T z.hist) (says T z.hist) i r₀ q₀ (viewed view) seen_by)

    sound_then : Sound D₁ (In C D₁)
    unfolding says
    sound_then = sound (inv grown)

    -- the host goes on, and the others stand as they did
    sees : (H i).standing ≡ 0 → val_of (coin (H i)) ≡ C.coin i r₀ → (G : ℕ → Host) → ((j : ℕ) → (j ≡ i → ⊥) → G j ≡ H j) → G i ≡ after_view (H i) view
        → Voted C proposal T G
    sees votes tossed G same own = record {
      hist = D₁;
      tidy = z.tidy;
      reached = grown;
      stands = λ j k. go j k (ℕ_discrete j i);
      proposed = λ j v d. made_old j v d;
    }
      where
        made_old : (j : ℕ) (v : Val) → D₁ j (made v) → proposal j ≡ v
        made_old j v (old d) = z.proposed j v d

        go : (j : ℕ) → Honest C j → Dec (j ≡ i) → Stand C D₁ j (G j)
        go j k (no n) = rw (same j n) (stand_mono z.hist D₁ (λ _ _. old) (z.stands j k))
        go j k (yes q) =
            rw (q, own) (stand_after C z.hist D₁ (λ _ _. old) sound_then i view (rw view_here (view_small _ _ _)) (H i) ranged votes (z.stands i g) new tossed unsplit)

  -- ---- The turn

  -- a host that neither lies nor is broken nor finished votes
  voting : lying (H i) ≡ false → broken (H i) ≡ false → finished (H i) ≡ false → (H i).standing ≡ 0
  voting a b c =
      let lies = eqb-false (H i).standing 3 a in
      let breaks = eqb-false (H i).standing 2 b in
      let ends = eqb-false (H i).standing 1 c in
      omega (arith, ranged.standing)

  -- the hosts after the turn: this one as the move leaves it, the others as they were
  module _ (G : ℕ → Host) (same : (j : ℕ) → (j ≡ i → ⊥) → G j ≡ H j) (honest : lying (H i) ≡ false) (whole : broken (H i) ≡ false)
      (tossed : val_of (coin (H i)) ≡ C.coin i r₀) where
    -- where the host's record is the same, or has one frame more
    kept_record : Voted C proposal U H → G i ≡ H i → Voted C proposal U G
    kept_record y own = voted_hosts y (λ j d. subst (Stand C y.hist j) (sym (go j (ℕ_discrete j i))) d)
      where
        go : (j : ℕ) → Dec (j ≡ i) → G j ≡ H j
        go j (yes q) = rw (q, own) refl
        go j (no n) = same j n

    spoke : Voted C proposal U H → G i ≡ sent_one (H i) → Voted C proposal U G
    spoke y own = voted_hosts y (λ j d. go j (ℕ_discrete j i) d)
      where
        go : (j : ℕ) → Dec (j ≡ i) → Stand C y.hist j (H j) → Stand C y.hist j (G j)
        go j (yes q) d = rw (q, own) (stand_sent (rw q at d))
        go j (no n) d = rw (same j n) d

    -- the same words
    unmarked : U i ≡ T i → Voted C proposal U H
    unfolding Reason
    unmarked u = voted_put z {r = 0} {q = stage0 phase1} {x = begun} (put_none T U i others u) tt

    -- every move is a step of the vote
    pub turn_voted : (m : Move) → pick ≡ m → U i ≡ marked_by (T i) m → G i ≡ record_after (H i) (answered (H i) i m) → Voted C proposal U G
    unfolding Reason
    turn_voted Move.Idle e u own = kept_record (unmarked u) own
    turn_voted (Move.Echo k v) e u own =
        let (l, n) = rw e at (chosen_in (T i) (H i) (thresholds_of w) ranged) in
        spoke (echoed (k / 4) (slot_of (k % 4)) (val_of v) (omega arith) (rw (inst_of k, num_val v n) e) (rw (inst_of k, num_val v n) u)) own
    turn_voted (Move.Admit k v) e u own =
        let (l, n) = rw e at (chosen_in (T i) (H i) (thresholds_of w) ranged) in
        kept_record (admitted (k / 4) (slot_of (k % 4)) (val_of v) (omega arith) (rw (inst_of k, num_val v n) e) (rw (inst_of k, num_val v n) u)) own
    turn_voted (Move.BeginUnsent k) e u own =
        kept_record (voted_put z {r = k / 4} {q = slot_of (k % 4)} {x = begun} (put_one T U i (k / 4) (slot_of (k % 4)) begun others (rw (inst_of k) u)) tt) own
    turn_voted (Move.Begin k v) e u own =
        let (at-k, is-own, _, _) = begin_new (T i) (H i) (thresholds_of w) k v e in
        let votes = voting honest whole (begin_voting (T i) (H i) (thresholds_of w) k v e) in
        let n = num_val (H i).own ranged.own in
        let p : k ≡ inst r₀ q₀ = at-k ∙ sym here in
        let o : v ≡ num (val_of (H i).own) = is-own ∙ sym n in
        spoke (begins (rw (p, o) at e) votes (rw (p, o) at u)) own
    turn_voted (Move.Aux k v) e u own =
        let (l, n) = rw e at (chosen_in (T i) (H i) (thresholds_of w) ranged) in
        spoke (replied (k / 4) (slot_of (k % 4)) (val_of v) (rw (inst_of k, num_val v n) e) (rw (inst_of k, num_val v n) u)) own
    turn_voted (Move.View view) e u own =
        let y = sees view e (voting honest whole (view_voting (T i) (H i) (thresholds_of w) view e)) tossed G same own in
        voted_put y {r = 0} {q = stage0 phase1} {x = begun} (put_none T U i others u) tt
