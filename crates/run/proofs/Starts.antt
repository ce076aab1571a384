-- What a started run is: a world of a vote and 32 records, those of its hosts as the file says, each in range, none of them refused by 13.
-- Assumes nothing.
use Prim.Native.Nat.{ℕ, zero, suc, ◌≤◌, ◌<◌}
use mathlib.Core.Path.{◌≡◌, refl, ◌∙◌}
use mathlib.Core.Bool.{Bool, true, false, cond}
use mathlib.Core.List.{List}
use native.Mathlib.Nat.{zero-add}
use native.Mathlib.Omega.{arith}
use native.Mathlib.Decide.{ℕ_discrete, dec_lt}
use lib.Dec.{eqb, ltb}
use borrow.Author.Tests.{lt-ltb, le-ltb}
use lib.ListN.{length, get_or, set, length-set, length-replicate, get_or-replicate}
use lib.Seq.{get_or-set_same, get_or-set_other}
use Rattle.answer.specs.Answer.{accepted}
use Rattle.answer.proofs.Guards.{clear}
use Rattle.quorum.specs.World.{bad_hosts, bad_liars}
use Rattle.quorum.proofs.Reached.{sized}
use Rattle.host.specs.Record.{Valid}
use Rattle.host.specs.declared.Host.{Host}
use Rattle.file.specs.Layouts.{honest, three_at, first_host}
use Rattle.run.specs.Starting.{liar, record_place, enrolled, start_guards, world_in, first_run, starting}
use Rattle.run.specs.Playing.{no_host, host_at, after}
use Rattle.run.specs.Broadcasts.{broadcasts}
use Rattle.run.specs.declared.Run.{Run}
use Rattle.run.proofs.Sent.{sent_count, records_valid}

standing_in : (b : Bool) → cond b 3 0 < 4
standing_in true = omega arith
standing_in false = omega arith

-- a host starts in range, whatever its bits are
pub first_valid : (number : ℕ) → Valid (first_host number)
first_valid number = record {
  round_low = omega arith;
  round_high = omega arith;
  phase_low = omega arith;
  phase_high = omega arith;
  stage = omega arith;
  own = omega arith;
  est = omega arith;
  decision = omega arith;
  same = λ z. refl;
  sent = omega arith;
  standing = standing_in (eqb (honest number) 0);
}

pub enrolled_length : (bytes : List ℕ) (k : ℕ) → length (enrolled bytes k) ≡ 32
unfolding enrolled
enrolled_length bytes zero = length-replicate 32 liar
enrolled_length bytes (suc k) = length-set (enrolled bytes k) k (first_host (three_at bytes (record_place k))) ∙ enrolled_length bytes k

-- each of the 32 is a first record: among the first k of what its three bytes say, behind them a liar's
enrolled_at : (bytes : List ℕ) (k i : ℕ) → i < 32
    → get_or (enrolled bytes k) i no_host ≡ first_host (cond (ltb i k) (three_at bytes (record_place i)) 0)
unfolding enrolled
enrolled_at bytes zero i l = rw (le-ltb i 0 (omega arith)) (get_or-replicate 32 i liar no_host l)
enrolled_at bytes (suc k) i l = go (ℕ_discrete i k) (dec_lt i k) (enrolled_at bytes k i l)
  where
    new : Host
    new = first_host (three_at bytes (record_place k))

    go : Dec (i ≡ k) → Dec (i < k) → get_or (enrolled bytes k) i no_host ≡ first_host (cond (ltb i k) (three_at bytes (record_place i)) 0)
        → get_or (set (enrolled bytes k) k new) i no_host ≡ first_host (cond (ltb i (suc k)) (three_at bytes (record_place i)) 0)
    go (yes q) m before =
        rw (q, lt-ltb k (suc k) (omega arith)) (get_or-set_same (enrolled bytes k) k new no_host (rw (q, ← enrolled_length bytes k) at l))
    go (no d) (yes m) before =
        rw (get_or-set_other (enrolled bytes k) k i new no_host d, lt-ltb i (suc k) (omega arith)) (rw (lt-ltb i k m) at before)
    go (no d) (no m) before =
        rw (get_or-set_other (enrolled bytes k) k i new no_host d, le-ltb i (suc k) (omega arith)) (rw (le-ltb i k (omega arith)) at before)

module _ (bytes : List ℕ) {run : Run} (started : starting bytes ≡ accepted run) where
  is_first : run ≡ first_run bytes (world_in bytes)
  unfolding starting
  is_first = (clear (start_guards bytes) (first_run bytes (world_in bytes)) started).1

  -- its world is one that 2 and 3 let pass
  pub started_world : (bad_hosts run.world ≡ false) × (bad_liars run.world ≡ false)
  unfolding starting
  started_world =
      let ((_, (n, (t, _))), _) = clear (start_guards bytes) (first_run bytes (world_in bytes)) started in
      rw is_first (n, t)

  -- so it has 32 hosts at most
  most_hosts : run.world.n ≤ 32
  most_hosts = let (n, t) = started_world in (sized run.world n t).most

  -- there are 32 records
  pub started_length : length run.hosts ≡ 32
  started_length = rw is_first (enrolled_length bytes (world_in bytes).n)

  -- what every first record has, each of them has
  pub started_all : (P : Host → Type 0) → ((number : ℕ) → P (first_host number)) → (i : ℕ) → i < 32 → P (host_at run i)
  started_all P first i l = rw (is_first, enrolled_at bytes (world_in bytes).n i l) (first _)

  -- that of each host of the world is what its three bytes say
  pub started_record : (i : ℕ) → i < run.world.n → host_at run i ≡ first_host (three_at bytes (record_place i))
  started_record i l =
      let low = lt-ltb i (world_in bytes).n (rw is_first at l) in
      rw (is_first, enrolled_at bytes (world_in bytes).n i (omega (arith, most_hosts)), low) refl

  -- after any number of events each record is in range: no event is refused by 13 for a record
  pub run_valid : (table : List ℕ) (ps : List (List ℕ)) (i : ℕ) → i < 32 → Valid (host_at (after run table ps).0 i)
  run_valid table ps i l = records_valid run table ps i (started_all Valid first_valid i l)

  -- and its sent count is the number of the frames that its host has broadcast
  pub run_sent : (table : List ℕ) (ps : List (List ℕ)) (i : ℕ) → i < 32 → (host_at (after run table ps).0 i).sent ≡ length (broadcasts run table ps i)
  run_sent table ps i l =
      let none : (host_at run i).sent ≡ 0 = started_all (λ h. h.sent ≡ 0) (λ number. refl) i l in
      sent_count run table ps i (rw started_length l) ∙ rw none (zero-add _)
