-- How the loop of `walk` follows a course: `at` bytes are taken, and what is left is the course from here on. Assumes nothing.
use Prim.Native.Nat.{ℕ, ◌+◌, ◌<◌, ◌≤◌}
use mathlib.Core.Path.{◌≡◌, refl, sym, ap, ◌∙◌}
use mathlib.Core.List.{List, [], ◌∷◌}
use native.Mathlib.Omega.{arith}
use native.Mathlib.Nat.{add-zero, add_assoc}
use borrow.Author.Tests.{lt-leb, le-leb, lt-ltb}
use lib.ListN.{length, take, drop, set, length-take, length-drop}
use Rattle.std.specs.Prelude.{None}
use Rattle.answer.specs.Answer.{Answer, refused, accepted}
use Rattle.host.specs.declared.Host.{Host}
use Rattle.turn.specs.Applying.{Turn}
use Rattle.file.specs.Reading.{something, event_at}
use Rattle.file.specs.declared.Event.{Event}
use Rattle.table.specs.Stepping.{stepping}
use Rattle.run.specs.Playing.{pieces, sender_in, host_in, host_at, happens, record_after, most_events, settled, Ending, stopped, Course, resting, further, course}
use Rattle.run.specs.Parts.{played_says, stopped_at, IsCourse}
use Rattle.run.proofs.Showing.{sees_piece, sees_event}
use Rattle.run.specs.declared.Run.{Run}
use Rattle.run.specs.declared.Played.{Played}

shows : (r : Played) (c : Course) → played_says r ≡ (accepted c.ending, (c.run, c.taken)) → IsCourse r c.table c
shows r c e = ap (λ (p : Answer Ending × (Run × ℕ)). (p.0, (p.1.0, p.1.1, c.table))) e

module _ (run : Run) (table : List ℕ) where
  -- a run that takes no more events, or has none to take, rests
  pub rests_full : (ps : List (List ℕ)) → most_events ≤ run.events → course run table ps ≡ resting run table
  unfolding course
  rests_full [] l = refl
  rests_full (p ∷ ps) l = simp (le-leb _ _ l)

  pub rests_empty : {ps : List (List ℕ)} → ps ≡ [] → course run table ps ≡ resting run table
  unfolding course
  rests_empty e = rw e refl

  -- a refused event stops it
  pub stops_here : {ps more : List (List ℕ)} {piece : List ℕ} {k : ℕ} {after : List ℕ} → ps ≡ piece ∷ more → run.events < most_events
      → happens run table piece ≡ (refused k, after)
      → course run table ps ≡ record { ending = stopped k; run = settled run 0 (refused k); taken = length piece; table = after }
  unfolding course
  stops_here p l e = rw p (simp (lt-leb _ _ l, e))

  -- an accepted one lets it go on
  pub goes_on_here : {ps more : List (List ℕ)} {piece : List ℕ} {turn : Turn} {after : List ℕ} → ps ≡ piece ∷ more → run.events < most_events
      → happens run table piece ≡ (accepted turn, after)
      → course run table ps ≡ further (length piece) (course (settled run (host_in piece) (accepted turn)) after more)
  unfolding course
  goes_on_here p l e = rw p (simp (lt-leb _ _ l, e))

  -- ---- What the loop answers

  pub walk_ends : {whole : Course} (ps : List (List ℕ)) (at : ℕ) → whole ≡ further at (course run table ps)
      → course run table ps ≡ resting run table → IsCourse (record { run = run; taken = at; stop = None }) table whole
  walk_ends ps at w e = rw (w, e) (shows (record { run = run; taken = at; stop = None }) (further at (resting run table)) (rw add-zero refl))

  pub walk_stops : {whole : Course} (ps : List (List ℕ)) (at n : ℕ) {k : ℕ} {after : List ℕ} (r : Played) → whole ≡ further at (course run table ps)
      → course run table ps ≡ record { ending = stopped k; run = settled run 0 (refused k); taken = n; table = after }
      → played_says r ≡ stopped_at run (at + n) k → IsCourse r after whole
  walk_stops ps at n r w e p = rw (w, e) (shows r (further at _) p)

-- bytes taken before bytes taken
pub further_twice : (a b : ℕ) (c : Course) → further a (further b c) ≡ further (a + b) c
further_twice a b c = simp add_assoc

-- three bytes from a place on end within the bytes
pub within : (bytes : List ℕ) (at : ℕ) → length (take 3 (drop at bytes)) ≡ 3 → at + 3 ≤ length bytes
within bytes at n = omega (arith, length-take 3 (drop at bytes), length-drop at bytes)

-- ---- An incomplete event at the end

pub walk_piece : (run : Run) (table bytes : List ℕ) (at : ℕ) {whole : Course} (r : Played) {k : ℕ}
    → whole ≡ further at (course run table (pieces (drop at bytes))) → run.events < most_events → at ≤ length bytes
    → event_at bytes at ≡ something (refused k) → played_says r ≡ stopped_at run (length bytes) k → IsCourse r table whole
unfolding happens
walk_piece run table bytes at r {k} so_far going in_bytes seen said =
    let (p, q) = sees_piece bytes at seen in
    let all : at + length (drop at bytes) ≡ length bytes = omega (arith, length-drop at bytes) in
    let refusal : happens run table (drop at bytes) ≡ (refused k, table) = rw q refl in
    walk_stops run table (pieces (drop at bytes)) at (length (drop at bytes)) r so_far (stops_here run table p going refusal) (rw all said)

-- ---- An event of the loop

module _ (run : Run) (table bytes : List ℕ) (at : ℕ) {whole : Course} (so_far : whole ≡ further at (course run table (pieces (drop at bytes))))
    (going : run.events < most_events) {e : Event} (seen : event_at bytes at ≡ something (accepted e)) {a : Answer Turn} {after : List ℕ}
    (stepped : ◌≡◌ {A = Answer Turn × List ℕ} (a, after) (stepping table (host_at run e.host) (host_at run (sender_in e)) run.world e)) where
  -- the run with the event's host moved on
  abbrev pub moved : Host → Run
  moved next = record { hosts = set run.hosts e.host next; world = run.world; events = run.events + 1; refused = run.refused }

  happened : happens run table (take 3 (drop at bytes)) ≡ (a, after)
  unfolding happens
  happened = let (_, q, _, _, _) = sees_event bytes at seen in rw q (sym stepped)

  pub walk_refused : (r : Played) {k : ℕ} → a ≡ refused k → played_says r ≡ stopped_at run (at + 3) k → IsCourse r after whole
  walk_refused r refusal said =
      let (p, _, _, _, n) = sees_event bytes at seen in
      walk_stops run table (pieces (drop at bytes)) at 3 r so_far
      (stops_here run table p going (happened ∙ ap (λ (x : Answer Turn). (x, after)) refusal) ∙ rw n refl) said

  pub walk_goes : (next : Host) (t : Turn) → a ≡ accepted t → next ≡ record_after (host_at run e.host) t
      → whole ≡ further (at + 3) (course (moved next) after (pieces (drop (at + 3) bytes)))
  walk_goes next t taken same =
      let (p, _, h, _, n) = sees_event bytes at seen in
      so_far
      ∙ ap (λ (c : Course). further at c) (goes_on_here run table p going (happened ∙ ap (λ (x : Answer Turn). (x, after)) taken))
      ∙ rw (n, h, same) (simp (lt-ltb _ _ going) (further_twice at 3 _))
