-- The hosts' records over a run: the sent count is that of the frames broadcast, and a liar's record never changes. Assumes nothing.
use Prim.Native.Nat.{ℕ, ◌+◌, ◌<◌}
use mathlib.Core.Path.{◌≡◌, refl, sym, ◌∙◌}
use mathlib.Core.Bool.{Bool, true, false, cond}
use mathlib.Core.Logic.{⊎_elim}
use mathlib.Core.List.{List, [], ◌∷◌, ◌++◌}
use native.Mathlib.Decide.{dec_lt, ℕ_discrete}
use native.Mathlib.Omega.{arith}
use borrow.Author.Tests.{eq-eqb, ne_eqb}
use lib.ListN.{length, length-set, length-append}
use lib.Seq.{set_out, get_or-set_same, get_or-set_other}
use Rattle.answer.specs.Answer.{Answer, refused, accepted}
use Rattle.frame.specs.declared.Frame.{Frame}
use Rattle.host.specs.Record.{lying, Valid}
use Rattle.host.specs.declared.Host.{Host}
use Rattle.quorum.specs.declared.World.{World}
use Rattle.turn.specs.Applying.{Turn, idle, quiet, broadcast}
use Rattle.turn.proofs.Turns.{turn_made}
use Rattle.file.specs.declared.Event.{Event}
use Rattle.table.specs.Table.{part_of}
use Rattle.table.specs.Stepping.{stepping}
use Rattle.table.proofs.Steps.{step_acts, step_sent, step_quiet, step_valid, quiet_valid}
use Rattle.run.specs.Playing.{host_in, no_host, host_at, happens, record_after, full, settled, run_after, table_after, after}
use Rattle.run.specs.Broadcasts.{frames_of, broadcasts}
use Rattle.run.specs.declared.Run.{Run}
use Rattle.run.proofs.Happening.{step_of, event_step}
use Rattle.run.proofs.Runs.{along}

-- ---- One record, one event

-- an event leaves the records of the other hosts
pub event_others : (run : Run) (table piece : List ℕ) (j : ℕ) → (j ≡ host_in piece → ⊥) → host_at (run_after run table piece) j ≡ host_at run j
event_others run table piece j d = go (happens run table piece).0
  where
    go : (a : Answer Turn) → host_at (settled run (host_in piece) a) j ≡ host_at run j
    go (refused k) = refl
    go (accepted a) = get_or-set_other run.hosts (host_in piece) j (record_after (host_at run (host_in piece)) a) no_host d

-- and that of its own host is what it answered, where it is accepted
pub event_own : (run : Run) (table piece : List ℕ) {a : Turn} {t : List ℕ} → host_in piece < length run.hosts
    → happens run table piece ≡ (accepted a, t)
    → host_at (run_after run table piece) (host_in piece) ≡ record_after (host_at run (host_in piece)) a
event_own run table piece {a} l e = rw e (get_or-set_same run.hosts (host_in piece) (record_after (host_at run (host_in piece)) a) no_host l)

-- an event of another host broadcasts no frame of this one
frames_other : (i : ℕ) (piece : List ℕ) (a : Answer Turn) → (host_in piece ≡ i → ⊥) → frames_of i piece a ≡ []
frames_other i piece (refused k) d = refl
frames_other i piece (accepted idle) d = refl
frames_other i piece (accepted (quiet g)) d = refl
frames_other i piece (accepted (broadcast g f)) d = rw (ne_eqb (host_in piece) i d) refl

-- the record of host i after an event: the same, and it broadcast no frame, or what its step answered
by_record : (P : Host → Type 0) (run : Run) (table piece : List ℕ) (i : ℕ)
    → ((i < length run.hosts → frames_of i piece (happens run table piece).0 ≡ []) → P (host_at run i))
    → ((a : Turn) (t : List ℕ) → host_in piece ≡ i → happens run table piece ≡ (accepted a, t) → step_of run table piece i ≡ (accepted a, t)
    → P (record_after (host_at run i) a))
    → P (host_at (run_after run table piece) i)
by_record P run table piece i same new = go (ℕ_discrete i (host_in piece)) (dec_lt i (length run.hosts)) (happens run table piece) refl
  where
    go : Dec (i ≡ host_in piece) → Dec (i < length run.hosts) → (x : Answer Turn × List ℕ) → happens run table piece ≡ x
        → P (host_at (run_after run table piece) i)
    go (no d) l x e =
        rw (event_others run table piece i d) (same (λ _. frames_other i piece (happens run table piece).0 (λ q. d (sym q))))
    go (yes q) l (refused k, t) e = rw e (same (λ _. rw e refl))
    go (yes q) (no m) (accepted a, t) e = rw (e, set_out run.hosts (host_in piece) _ (omega arith)) (same (λ l. absurd (m l)))
    go (yes q) (yes l) (accepted a, t) e =
        rw (q, event_own run table piece (rw q at l) e) (rw q at (new a t (sym q) e (rw q (event_step run table piece e))))

module _ (table : List ℕ) (h s : Host) (w : World) (e : Event) where
  -- the record after a step is in range where that before it was
  record_valid : (a : Turn) {t : List ℕ} → stepping table h s w e ≡ (accepted a, t) → Valid h → Valid (record_after h a)
  record_valid idle q v = v
  record_valid (quiet g) q v = quiet_valid table h s w e q
  record_valid (broadcast g f) q v = step_valid table h s w e q

  -- it is the same where the host is a liar: its turns are refused by 6
  record_liar : (a : Turn) {t : List ℕ} → stepping table h s w e ≡ (accepted a, t) → lying h ≡ true → record_after h a ≡ h
  record_liar a q l =
      ⊎_elim (λ i. rw i refl)
      (λ turn. let ((g13, (g2, (g3, (g5, (g6, _))))), _) = turn_made (part_of table e.host) h w e.host turn in cc)
      (step_acts table h s w e q)

  -- its sent count is higher by the frames that the step broadcast
  record_sent : (a : Turn) {t : List ℕ} → stepping table h s w e ≡ (accepted a, t) → (piece : List ℕ) (i : ℕ) → host_in piece ≡ i
      → (record_after h a).sent ≡ h.sent + length (frames_of i piece (accepted a))
  record_sent idle q piece i p = omega arith
  record_sent (quiet g) q piece i p = omega (arith, step_quiet table h s w e q)
  record_sent (broadcast g f) q piece i p = rw (eq-eqb (host_in piece) i p) (step_sent table h s w e q)

-- ---- A whole run

-- there are as many records after an event
settled_length : (run : Run) (i : ℕ) (a : Answer Turn) → length (settled run i a).hosts ≡ length run.hosts
settled_length run i (refused k) = refl
settled_length run i (accepted a) = length-set run.hosts i (record_after (host_at run i) a)

-- and after a run
pub length_hosts : (run : Run) (table : List ℕ) (ps : List (List ℕ)) → length (after run table ps).0.hosts ≡ length run.hosts
length_hosts run table ps =
    along (λ r t. length r.hosts ≡ length run.hosts) (λ r t p e. settled_length r (host_in p) (happens r t p).0 ∙ e) run table ps refl

-- the world is the same
pub world_stays : (run : Run) (table : List ℕ) (ps : List (List ℕ)) → (after run table ps).0.world ≡ run.world
world_stays run table ps = along (λ r t. r.world ≡ run.world) (λ r t p e. go r (host_in p) (happens r t p).0 ∙ e) run table ps refl
  where
    go : (r : Run) (i : ℕ) (a : Answer Turn) → (settled r i a).world ≡ r.world
    go r i (refused k) = refl
    go r i (accepted a) = refl

-- a record in range stays in range
pub records_valid : (run : Run) (table : List ℕ) (ps : List (List ℕ)) (i : ℕ) → Valid (host_at run i) → Valid (host_at (after run table ps).0 i)
records_valid run table ps i =
    along (λ r t. Valid (host_at r i)) (λ r t p v. by_record Valid r t p i (λ _. v) (λ a u q e s. record_valid _ _ _ _ _ a s v)) run table ps

-- of a liar: "its record never changes"
pub liar_stays : (run : Run) (table : List ℕ) (ps : List (List ℕ)) (i : ℕ) → lying (host_at run i) ≡ true
    → host_at (after run table ps).0 i ≡ host_at run i
liar_stays run table ps i l =
    along (λ r t. host_at r i ≡ host_at run i)
    (λ r t p same. by_record (λ h. h ≡ host_at run i) r t p i (λ _. same) (λ a u q e s. record_liar _ _ _ _ _ a s (rw same l) ∙ same))
    run table ps refl

-- an event adds to a host's sent count the frames that it broadcast
event_sent : (run : Run) (table piece : List ℕ) (i : ℕ) → i < length run.hosts
    → (host_at (run_after run table piece) i).sent ≡ (host_at run i).sent + length (frames_of i piece (happens run table piece).0)
event_sent run table piece i l =
    by_record (λ h. h.sent ≡ (host_at run i).sent + length (frames_of i piece (happens run table piece).0)) run table piece i
    (λ none. rw (none l) (omega arith)) (λ a t q e s. rw e (record_sent _ _ _ _ _ a s piece i q))

-- so does a run: "the count is that of the frames its rules send"
pub sent_count : (run : Run) (table : List ℕ) (ps : List (List ℕ)) (i : ℕ) → i < length run.hosts
    → (host_at (after run table ps).0 i).sent ≡ (host_at run i).sent + length (broadcasts run table ps i)
unfolding after broadcasts
sent_count run table [] i l = omega arith
sent_count run table (p ∷ ps) i l = go (full run) (sent_count r t ps i (rw (settled_length run (host_in p) (happens run table p).0) l))
  where
    r : Run
    r = run_after run table p

    t : List ℕ
    t = table_after run table p

    now : List Frame
    now = frames_of i p (happens run table p).0

    go : (b : Bool) → (host_at (after r t ps).0 i).sent ≡ (host_at r i).sent + length (broadcasts r t ps i)
        → (host_at (cond b (run, table) (after r t ps)).0 i).sent ≡ (host_at run i).sent + length (cond b [] (now ++ broadcasts r t ps i))
    go true e = omega arith
    go false e = omega (arith, length-append now (broadcasts r t ps i), event_sent run table p i l)
