-- One event of a run: refused, it leaves the table and all but the counts; accepted, it is a step on the table. Assumes nothing.
use Prim.Native.Nat.{ℕ, ◌<◌}
use mathlib.Core.Path.{◌≡◌, refl, sym, ap}
use mathlib.Core.Bool.{Bool, true, false, cond}
use mathlib.Core.List.{List}
use native.Mathlib.Omega.{arith}
use lib.Dec.{ltb}
use lib.ListN.{length}
use Rattle.answer.specs.Answer.{Answer, refused, accepted}
use Rattle.answer.proofs.Guards.{not_both}
use Rattle.turn.specs.Applying.{Turn}
use Rattle.file.specs.Layouts.{three_at, event_of}
use Rattle.file.specs.Reading.{left_from, event_in}
use Rattle.file.specs.declared.Event.{Event}
use Rattle.table.specs.Stepping.{stepping}
use Rattle.table.proofs.Steps.{step_refused, step_length}
use Rattle.run.specs.Playing.{host_in, sender_in, host_at, happening, happens, run_after, table_after}
use Rattle.run.specs.declared.Run.{Run}

-- the event that a whole piece says
abbrev event_from : List ℕ → Event
event_from piece = event_of (three_at piece 0)

-- its host is one of 32: it has five bits
pub host_32 : (piece : List ℕ) → host_in piece < 32
host_32 piece = omega arith

module _ (run : Run) (table piece : List ℕ) where
  -- that event as a step of host i on the table
  abbrev pub step_of : ℕ → Answer Turn × List ℕ
  step_of i = stepping table (host_at run i) (host_at run (sender_in (event_from piece))) run.world (event_from piece)

  -- the two ways of an event: it is not whole, or it is a step of the host that it names
  by_event : (P : Answer Turn × List ℕ → Type 0) → ((k : ℕ) → P (refused k, table)) → P (step_of (host_in piece)) → P (happens run table piece)
  unfolding happens event_in
  by_event P none step = go (ltb (left_from piece 0) 3)
    where
      go : (b : Bool) → P (happening run table (cond b (refused 1) (accepted (event_from piece))))
      go true = none 1
      go false = step

  -- "A refused event leaves the run as it was": the table, the hosts' records and the world
  pub refused_leaves : {k : ℕ} {t : List ℕ} → happens run table piece ≡ (refused k, t)
      → (t ≡ table) × ((run_after run table piece).hosts ≡ run.hosts) × ((run_after run table piece).world ≡ run.world)
  refused_leaves {k} {t} e =
      (by_event (λ r. r ≡ (refused k, t) → t ≡ table) (λ j q. sym (ap (λ x. x.1) q)) (step_refused _ _ _ _ _) e, rw e refl, rw e refl)

  -- an event leaves as many words
  pub event_length : length (table_after run table piece) ≡ length table
  event_length = by_event (λ r. length r.1 ≡ length table) (λ k. refl) (step_length _ _ _ _ _ refl)

  -- an accepted event is the step of the host that it names
  pub event_step : {a : Turn} {t : List ℕ} → happens run table piece ≡ (accepted a, t) → step_of (host_in piece) ≡ (accepted a, t)
  event_step {a} {t} =
      by_event (λ r. r ≡ (accepted a, t) → step_of (host_in piece) ≡ (accepted a, t)) (λ k q. absurd (not_both (ap (λ x. x.0) q) refl)) (λ q. q)
