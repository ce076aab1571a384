-- The frames that hosts broadcast, by round: each is of one of the 16, so that the sums over the rounds are all of them. Assumes nothing.
use Prim.Native.Nat.{ℕ, zero, suc, ◌+◌, ◌≤◌, ◌<◌}
use mathlib.Core.Path.{◌≡◌, refl, ◌∙◌}
use mathlib.Core.Logic.{◌⊎◌, ⊎_elim}
use mathlib.Core.List.{List, [], ◌∷◌, ◌++◌}
use native.Mathlib.Omega.{arith}
use borrow.Author.Tests.{ne_eqb, lt-ltb, le-ltb}
use lib.Dec.{eqb, ltb}
use lib.ListN.{length}
use Rattle.answer.specs.Answer.{Answer, refused, accepted}
use Rattle.answer.proofs.Guards.{clear}
use Rattle.answer.proofs.Tests.{either}
use Rattle.frame.specs.Frame.{word_of, pack_guards, packing}
use Rattle.frame.specs.declared.Frame.{Frame}
use Rattle.frame.proofs.Laws.{round_in}
use Rattle.quorum.specs.Count.{one}
use Rattle.quorum.proofs.Counting.{one_more}
use Rattle.host.specs.declared.Host.{Host}
use Rattle.turn.specs.Applying.{Turn, idle, quiet, broadcast}
use Rattle.turn.proofs.Turns.{idle_frame}
use Rattle.turn.proofs.Packable.{broadcast_packs}
use Rattle.table.proofs.Steps.{step_acts}
use Rattle.run.specs.Playing.{host_in, host_at, happens, full, run_after, table_after, after}
use Rattle.run.specs.Starting.{starting}
use Rattle.run.specs.Broadcasts.{frames_of, broadcasts}
use Rattle.run.specs.declared.Run.{Run}
use Rattle.run.proofs.Happening.{event_step}
use Rattle.run.proofs.Starts.{run_sent}
use Rattle.safety.specs.Demand.{in_round, over_rounds}

-- ---- Sums

-- a sum of sums
over_add : (k : ℕ) (f g : ℕ → ℕ) → over_rounds k (λ r. f r + g r) ≡ over_rounds k f + over_rounds k g
unfolding over_rounds
over_add zero f g = refl
over_add (suc k) f g = omega (arith, over_add k f g)

-- a round counts once, among those up to k
over_one : (k x : ℕ) → 1 ≤ x → over_rounds k (λ r. one (eqb x r)) ≡ one (ltb x (suc k))
unfolding over_rounds
over_one zero x l = rw (le-ltb x 1 l) refl
over_one (suc k) x l = rw (over_one k x l) (one_more x (suc k) (suc (suc k)) refl)

-- frames of rounds 1 to 16
abbrev Timely : List Frame → Type 0
Timely [] = Unit
Timely (f ∷ frames) = (1 ≤ f.round) × (f.round ≤ 16) × Timely frames

-- all of them are those of each round together
rounds_sum : (frames : List Frame) → Timely frames → length frames ≡ over_rounds 16 (λ r. in_round r frames)
unfolding in_round over_rounds
rounds_sum [] t = refl
rounds_sum (f ∷ frames) (low, high, t) =
    let here : over_rounds 16 (λ r. one (eqb f.round r)) ≡ 1 = rw (lt-ltb f.round 17 (omega arith)) at (over_one 16 f.round low) in
    omega (arith, rounds_sum frames t, over_add 16 (λ r. one (eqb f.round r)) (λ r. in_round r frames))

-- two lists of frames together
pub in_append : (r : ℕ) (xs ys : List Frame) → in_round r (xs ++ ys) ≡ in_round r xs + in_round r ys
unfolding in_round
in_append r [] ys = omega arith
in_append r (f ∷ xs) ys = omega (arith, in_append r xs ys)

timely_append : (xs ys : List Frame) → Timely xs → Timely ys → Timely (xs ++ ys)
timely_append [] ys t u = u
timely_append (f ∷ xs) ys (low, high, t) u = (low, high, timely_append xs ys t u)

untimely : (r : ℕ) (frames : List Frame) → Timely frames → (r ≡ 0) ⊎ (16 < r) → in_round r frames ≡ 0
unfolding in_round
untimely r [] t o = refl
untimely r (f ∷ frames) (low, high, t) o =
    rw (ne_eqb f.round r (λ e. ⊎_elim (λ z. omega arith) (λ l. omega arith) o)) (omega (arith, untimely r frames t o))

-- ---- Broadcasts

-- a frame that an event broadcast is of one of the 16 rounds
event_round : (run : Run) (table piece : List ℕ) {g : Host} {f : Frame} {t : List ℕ} → happens run table piece ≡ (accepted (broadcast g f), t)
    → (1 ≤ f.round) × (f.round ≤ 16)
unfolding packing
event_round run table piece {f = f} e =
    let packs = ⊎_elim (λ i. absurd (idle_frame i)) (broadcast_packs _ _ _ _) (step_acts _ _ _ _ _ (event_step run table piece e)) in
    round_in f.round (clear (pack_guards f) (word_of f) packs).0.0

-- each frame that a host broadcasts in a run is of one of the 16 rounds
broadcasts_timely : (run : Run) (table : List ℕ) (ps : List (List ℕ)) (i : ℕ) → Timely (broadcasts run table ps i)
unfolding broadcasts
broadcasts_timely run table [] i = tt
broadcasts_timely run table (p ∷ ps) i =
    let now = frames_of i p (happens run table p).0 in
    let later = broadcasts (run_after run table p) (table_after run table p) ps i in
    either Timely (full run) [] (now ++ later) (λ _. tt)
    (λ _. timely_append now later (go (happens run table p) refl) (broadcasts_timely (run_after run table p) (table_after run table p) ps i))
  where
    go : (x : Answer Turn × List ℕ) → happens run table p ≡ x → Timely (frames_of i p x.0)
    go (refused k, t) e = tt
    go (accepted idle, t) e = tt
    go (accepted (quiet g), t) e = tt
    go (accepted (broadcast g f), t) e =
        let (low, high) = event_round run table p e in
        either Timely (eqb (host_in p) i) (f ∷ []) [] (λ _. (low, high, tt)) (λ _. tt)

-- a host's sent count is the sum of the frames that it has broadcast of each round
pub sent_sum : (bytes : List ℕ) {run : Run} → starting bytes ≡ accepted run → (table : List ℕ) (ps : List (List ℕ)) (i : ℕ) → i < 32
    → (host_at (after run table ps).0 i).sent ≡ over_rounds 16 (λ r. in_round r (broadcasts run table ps i))
sent_sum bytes started table ps i l =
    run_sent bytes started table ps i l ∙ rounds_sum (broadcasts _ table ps i) (broadcasts_timely _ table ps i)

-- there is no frame of another round
pub out_of_range : (run : Run) (table : List ℕ) (ps : List (List ℕ)) (i r : ℕ) → (r ≡ 0) ⊎ (16 < r) → in_round r (broadcasts run table ps i) ≡ 0
out_of_range run table ps i r = untimely r (broadcasts run table ps i) (broadcasts_timely run table ps i)
