-- Demand 3, of every run file: whatever its liars send and whatever its coins are, after any number of its events. Assumes nothing.
use Prim.Native.Nat.{ℕ, zero, suc, ◌+◌, ◌*◌, ◌≤◌, ◌<◌}
use mathlib.Core.Path.{◌≡◌, refl, sym, ap, ◌∙◌}
use mathlib.Core.Bool.{Bool, true, false}
use mathlib.Core.List.{List}
use mathlib.Core.Logic.{inl, inr}
use native.Mathlib.Decide.{dec_lt}
use native.Mathlib.Omega.{arith}
use lib.Dec.{ltb}
use lib.ListN.{length}
use borrow.Author.Tests.{lt-ltb, ne_eqb, not-true}
use Rattle.std.specs.Prelude.{Ok}
use Rattle.answer.specs.Answer.{accepted}
use Rattle.frame.specs.declared.Frame.{Frame}
use Rattle.quorum.specs.Count.{count}
use Rattle.quorum.proofs.Reached.{Sized}
use Rattle.host.specs.Words.{values, VAL, AUX, marks, has_sent}
use Rattle.table.specs.Table.{part_of}
use Rattle.run.specs.Starting.{starting}
use Rattle.run.specs.Playing.{pieces, host_at, after}
use Rattle.run.specs.Broadcasts.{broadcasts}
use Rattle.run.specs.Calls.{Starts}
use Rattle.run.specs.Replaying.{replaying}
use Rattle.run.specs.declared.Run.{Run}
use Rattle.run.proofs.Runs.{replaying_after}
use Rattle.run.proofs.Starts.{started_world}
use Rattle.safety.specs.Demand.{Honest, liars, proposal, Equal, Decided, in_round, over_rounds, Safe, cleared, events, AlwaysSafe}
use Rattle.safety.proofs.Votes.{Val, v0, v1, neither, phase1, phase2, Slot, stage0, stage1, made, Honest as HonestIn, Equal as EqualIn}
use Rattle.safety.proofs.Phases.{Decided as DecidedIn}
use Rattle.safety.proofs.Steps.{several, several_one}
use Rattle.safety.proofs.Outcome.{agree, valid, two_said, one_said}
use Rattle.safety.proofs.Reading.{num, val_of, num_val, inst, said_val, said_aux, Words, fits, holds, says}
use Rattle.safety.proofs.Opening.{size_of, below, ranged, fair_first}
use Rattle.safety.proofs.Events.{vote, Fair, fair_run}
use Rattle.safety.proofs.Rounds.{sent_sum, out_of_range}
use Rattle.safety.proofs.Marks.{said_in, spoken, marked}

-- ---- How much a host says

-- a host's marks of an instance, as the vote reads them
has_said : (T : Words) (i r : ℕ) (q : Slot) (v : Val) → r < 16 → fits q v ≡ true
    → (has_sent (T i) VAL (inst r q) (num v) ≡ holds T i r q (said_val v)) × (has_sent (T i) AUX (inst r q) (num v) ≡ holds T i r q (said_aux v))
unfolding holds marks
has_said T i r q v l f = rw (lt-ltb r 16 l, f) (refl, refl)

-- the values of an instance are two in stage 0, three in stage 1
counted : (k : ℕ) (q : Slot) (r : ℕ) → k ≡ inst r q → (p : ℕ → Bool) (h : Val → Bool) → ((v : Val) → fits q v ≡ true → p (num v) ≡ h v)
    → count (values k) p ≤ several h
unfolding count
counted k (stage0 phase1) r e p h f = let z : values k ≡ 2 = omega arith in rw (z, f v0 refl, f v1 refl) (omega arith)
counted k (stage0 phase2) r e p h f = let z : values k ≡ 2 = omega arith in rw (z, f v0 refl, f v1 refl) (omega arith)
counted k (stage1 phase1) r e p h f = let z : values k ≡ 3 = omega arith in rw (z, f v0 refl, f v1 refl, f neither refl) (omega arith)
counted k (stage1 phase2) r e p h f = let z : values k ≡ 3 = omega arith in rw (z, f v0 refl, f v1 refl, f neither refl) (omega arith)

-- an instance's frames: those VAL, and one AUX at most
said_in_lem : (T : Words) (i r : ℕ) (q : Slot) (k m : ℕ) → k ≡ inst r q → r < 16 → several (λ v. holds T i r q (said_val v)) ≤ m
    → ((v w : Val) → holds T i r q (said_aux v) ≡ true → holds T i r q (said_aux w) ≡ true → v ≡ w) → said_in (T i) k ≤ suc m
unfolding said_in
said_in_lem T i r q k m e l vals one-aux =
    omega (
      arith,
      vals,
      several_one (λ v. holds T i r q (said_aux v)) one-aux,
      counted k q r e (has_sent (T i) VAL k) (λ v. holds T i r q (said_val v)) (λ v f. rw e (has_said T i r q v l f).0),
      counted k q r e (has_sent (T i) AUX k) (λ v. holds T i r q (said_aux v)) (λ v f. rw e (has_said T i r q v l f).1),
    )

-- and a round's are those of its four instances
said_round : (T : Words) (i r m : ℕ) → r < 16 → ((q : Slot) → several (λ v. holds T i r q (said_val v)) ≤ m)
    → ((q : Slot) (v w : Val) → holds T i r q (said_aux v) ≡ true → holds T i r q (said_aux w) ≡ true → v ≡ w) → spoken (T i) r ≤ 4 * suc m
unfolding spoken
said_round T i r m l vals one-aux =
    let of : (q : Slot) (k : ℕ) → k ≡ inst r q → said_in (T i) k ≤ suc m = λ q k e. said_in_lem T i r q k m e l (vals q) (one-aux q) in
    omega (
      arith,
      of (stage0 phase1) (4 * r) (omega arith),
      of (stage1 phase1) (4 * r + 1) (omega arith),
      of (stage0 phase2) (4 * r + 2) (omega arith),
      of (stage1 phase2) (4 * r + 3) (omega arith),
    )

-- ---- Demand 3

honest_in : (run : Run) (z : Sized run.world) (few : liars run ≤ run.world.t) (i : ℕ) → Honest run i → HonestIn (vote run z few) i
honest_in run z few i (l, h) = (l, rw h refl)

in_honest : (run : Run) (z : Sized run.world) (few : liars run ≤ run.world.t) (i : ℕ) → HonestIn (vote run z few) i → Honest run i
in_honest run z few i (l, h) = (l, not-true _ h)

-- two numbers of values that are read alike are equal
same_number : (u v : ℕ) → u < 2 → v < 2 → val_of u ≡ val_of v → u ≡ v
same_number u v l m e = sym (num_val u (omega arith)) ∙ ap num e ∙ num_val v (omega arith)

module _ (bytes : List ℕ) (run : Run) (started : starting bytes ≡ accepted run) (few : liars run ≤ run.world.t) (ps : List (List ℕ)) where
  abbrev now : Run
  now = (after run cleared ps).0

  abbrev table : List ℕ
  table = (after run cleared ps).1

  abbrev z : Sized run.world
  z = size_of bytes run started few

  x : Fair run z few now table
  x = fair_run run z few run cleared ps (fair_first bytes run started few)

  made_by : (k v : ℕ) → v < 2 → Honest run k → x.voted.hist k (made (val_of v)) → proposal run k ≡ v
  made_by k v l (m, _) d =
      same_number (proposal run k) v (ranged bytes run started few k (below bytes run started few m)).est l (x.voted.proposed k (val_of v) d)

  -- a host's frames of a round, by its marks
  of_round : (i m : ℕ) → ((r : ℕ) (q : Slot) → several (λ v. holds (part_of table) i r q (said_val v)) ≤ m) → (r : ℕ)
      → in_round r (broadcasts run cleared ps i) ≤ 4 * suc m
  of_round i m vals zero = rw (out_of_range run cleared ps i 0 (inl refl)) (omega arith)
  of_round i m vals (suc r) = go (dec_lt r 16)
    where
      go : Dec (r < 16) → in_round (suc r) (broadcasts run cleared ps i) ≤ 4 * suc m
      go (yes l) = rw (marked run ps i r) (said_round (part_of table) i r m l (vals r) (x.voted.tidy.said_one i r))
      go (no g) = rw (out_of_range run cleared ps i (suc r) (inr (omega arith))) (omega arith)

  equal_in : Equal run → EqualIn (vote run z few) x.voted.hist
  equal_in e u w a b =
      let p = x.voted.proposed a.host u a.said in
      let q = x.voted.proposed b.host w b.said in
      sym p ∙ ap val_of (e a.host b.host (in_honest run z few a.host a.honest) (in_honest run z few b.host b.honest)) ∙ q

  decided_by : (i v : ℕ) → Honest run i → Decided now i v → DecidedIn x.voted.hist i (val_of v)
  decided_by i v h (e, l) = (x.voted.stands i (honest_in run z few i h)).dec_in v l e

  safe_after : Safe run now (broadcasts run cleared ps)
  unfolding says
  safe_after = record {
    agreement = λ i j u v h k d e. same_number u v d.1 e.1 (agree x.voted.reached j i (val_of v) (val_of u) (decided_by j v k e) (decided_by i u h d));
    validity = λ i v h d.
        let m = valid x.voted.reached i (val_of v) (decided_by i v h d) in
        let k = in_honest run z few m.host m.honest in
        (m.host, k, made_by m.host v d.1 k m.said);
    twelve = λ i r h. of_round i 2 (λ r q. two_said x.voted.reached i r q (honest_in run z few i h)) r;
    eight = λ e i r h. of_round i 1 (λ r q. one_said x.voted.reached (equal_in e) i r q (honest_in run z few i h)) r;
    sent = λ i h. sent_sum bytes started cleared ps i (below bytes run started few h.0);
    whole = λ i h. ne_eqb _ 2 (x.voted.stands i (honest_in run z few i h)).whole;
  }

-- demand 3
pub always_safe : AlwaysSafe
always_safe bytes run started few k = safe_after bytes run started few (events k bytes run)

-- ---- What follows

over_most : (k m : ℕ) (f : ℕ → ℕ) → ((r : ℕ) → f r ≤ m) → over_rounds k f ≤ k * m
unfolding over_rounds
over_most zero m f l = omega arith
over_most (suc k) m f l = omega (arith, over_most k m f l, l (suc k))

-- the sent count of an honest host stays below its upper end: no turn of it is refused by 13
pub sent_most : {first now : Run} {frames : ℕ → List Frame} → Safe first now frames → (i : ℕ) → Honest first i → (host_at now i).sent ≤ 192
sent_most {frames = frames} s i h = rw (s.sent i h) (over_most 16 12 (λ r. in_round r (frames i)) (λ r. s.twelve i r h))

-- the same of the calls, by their promises: the run that `start` answers, with any bytes of events, those that `rest` hands back among them,
-- played by `play` from a cleared table and called again after each refused event until the bytes end
pub calls_safe : (bytes : List ℕ) (run : Run) → Starts bytes (Ok run) → liars run ≤ run.world.t
    → (part : List ℕ) → Safe run (replaying (suc (length part)) run cleared part).0 (broadcasts run cleared (pieces part))
calls_safe bytes run p few part =
    let started = sym p in
    let (n, t) = started_world bytes started in
    let long : ltb (length cleared) 14336 ≡ false = refl in
    rw (replaying_after (suc (length part)) run cleared part (long, (n, (t, tt))) (omega arith))
    (safe_after bytes run started few (pieces part))
