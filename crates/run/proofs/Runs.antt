-- Playing in parts: cut between events, or called again after each refused one, the run is the same. Assumes nothing.
use Prim.Native.Nat.{ℕ, zero, suc, ◌+◌, ◌*◌, ◌≤◌, ◌<◌}
use mathlib.Core.Path.{◌≡◌, refl, sym, ap, ◌∙◌}
use mathlib.Core.Bool.{Bool, true, false, cond, true≢false}
use mathlib.Core.List.{List, [], ◌∷◌, ◌++◌, flatten}
use native.Mathlib.Nat.{zero-add, add_assoc}
use native.Mathlib.Omega.{arith}
use borrow.Author.Tests.{ltb-true, ltb-false}
use lib.Dec.{ltb}
use lib.ListN.{length, take, drop, length-drop}
use lib.Seq.{drop-drop}
use Rattle.answer.specs.Answer.{Answer, refused, accepted}
use Rattle.answer.proofs.Guards.{Clear, passes}
use Rattle.answer.proofs.Tests.{either}
use Rattle.turn.specs.Applying.{Turn}
use Rattle.run.specs.Playing.{pieces, host_in, happens, most_events, full, counted, settled, run_after, table_after, after}
use Rattle.run.specs.Playing.{Ending, ended, stopped, Course, resting, further, onwards, course}
use Rattle.run.specs.Calls.{play_guards, left, playing}
use Rattle.run.specs.Parts.{course_says}
use Rattle.run.specs.Replaying.{calling, replaying}
use Rattle.run.specs.declared.Run.{Run}
use Rattle.run.proofs.Happening.{refused_leaves, event_length}

-- ---- Pieces

-- the pieces in order are the bytes again: none is lost or read twice
pub pieces_whole : (bytes : List ℕ) → flatten (pieces bytes) ≡ bytes
unfolding pieces flatten
pieces_whole [] = refl
pieces_whole (a ∷ []) = refl
pieces_whole (a ∷ b ∷ []) = refl
pieces_whole (a ∷ b ∷ c ∷ rest) = ap {B = List ℕ} (λ x. a ∷ b ∷ c ∷ x) (pieces_whole rest)

-- three bytes to an event
three_more : (k : ℕ) → 3 * suc k ≡ suc (suc (suc (3 * k)))
three_more k = omega arith

-- bytes may be cut between events
pub pieces_parts : (k : ℕ) (bytes : List ℕ) → pieces bytes ≡ pieces (take (3 * k) bytes) ++ pieces (drop (3 * k) bytes)
unfolding pieces
pieces_parts zero bytes = refl
pieces_parts (suc k) [] = rw three_more
pieces_parts (suc k) (a ∷ []) = rw three_more
pieces_parts (suc k) (a ∷ b ∷ []) = rw three_more
pieces_parts (suc k) (a ∷ b ∷ c ∷ rest) = rw three_more (ap {B = List (List ℕ)} (λ x. (a ∷ b ∷ c ∷ []) ∷ x) (pieces_parts k rest))

-- a first piece has a byte, and the pieces of what stands behind it are the others
first_piece : (bytes piece : List ℕ) (more : List (List ℕ)) → pieces bytes ≡ piece ∷ more
    → (0 < length piece) × (length piece ≤ length bytes) × (pieces (drop (length piece) bytes) ≡ more)
unfolding pieces
first_piece [] piece more e = absurd (true≢false (cc))
first_piece (a ∷ []) piece more e = let q : a ∷ [] ≡ piece = cc in rw (← q) (omega arith, omega arith, cc)
first_piece (a ∷ b ∷ []) piece more e = let q : a ∷ b ∷ [] ≡ piece = cc in rw (← q) (omega arith, omega arith, cc)
first_piece (a ∷ b ∷ c ∷ rest) piece more e = let q : a ∷ b ∷ c ∷ [] ≡ piece = cc in rw (← q) (omega arith, omega arith, cc)

-- ---- The whole run

module _ (run : Run) (table : List ℕ) where
  -- a full run takes no event
  after_full : (ps : List (List ℕ)) → full run ≡ true → after run table ps ≡ (run, table)
  unfolding after
  after_full [] f = refl
  after_full (p ∷ ps) f = rw f refl

  -- any other takes the next
  after_next : (p : List ℕ) (ps : List (List ℕ)) {a : Answer Turn} {t : List ℕ} → full run ≡ false → happens run table p ≡ (a, t)
      → after run table (p ∷ ps) ≡ after (settled run (host_in p) a) t ps
  unfolding after
  after_next p ps f e = rw (f, e, ap (λ x. x.1) e) refl

  -- a refused one is counted, in both counts, and changes nothing else: "the next event follows"
  pub next_follows : (p : List ℕ) (ps : List (List ℕ)) {k : ℕ} {t : List ℕ} → full run ≡ false → happens run table p ≡ (refused k, t)
      → after run table (p ∷ ps) ≡ after (settled run (host_in p) (refused k)) table ps
  next_follows p ps {k} f e =
      after_next p ps f e ∙ ap (λ (t : List ℕ). after (settled run (host_in p) (refused k)) t ps) (refused_leaves run table p e).0

-- the run over pieces in two parts is the run over the second part from where the first one ends
pub after_parts : (run : Run) (table : List ℕ) (ps qs : List (List ℕ))
    → after run table (ps ++ qs) ≡ after (after run table ps).0 (after run table ps).1 qs
unfolding after
after_parts run table [] qs = refl
after_parts run table (p ∷ ps) qs = go (full run) refl (after_parts r t ps qs)
  where
    r : Run
    r = run_after run table p

    t : List ℕ
    t = table_after run table p

    go : (b : Bool) → full run ≡ b → after r t (ps ++ qs) ≡ after (after r t ps).0 (after r t ps).1 qs
        → after run table (p ∷ ps ++ qs) ≡ after (after run table (p ∷ ps)).0 (after run table (p ∷ ps)).1 qs
    go true f e = rw f (sym (after_full run table qs f))
    go false f e = rw f e

-- so is the run over bytes that are cut between events
pub after_cut : (run : Run) (table : List ℕ) (k : ℕ) (bytes : List ℕ)
    → after run table (pieces bytes)
    ≡ after (after run table (pieces (take (3 * k) bytes))).0 (after run table (pieces (take (3 * k) bytes))).1 (pieces (drop (3 * k) bytes))
after_cut run table k bytes = rw (pieces_parts k bytes) (after_parts run table (pieces (take (3 * k) bytes)) (pieces (drop (3 * k) bytes)))

-- ---- One call

-- the four ways of a call: nothing to play, a full run, a refused event, and an accepted one with what follows it
data Call : Run → List ℕ → List (List ℕ) → Course → Type 0 where
  none : {run : Run} {table : List ℕ} → Call run table [] (resting run table)
  last : {run : Run} {table : List ℕ} {ps : List (List ℕ)} → full run ≡ true → Call run table ps (resting run table)
  halt : {run : Run} {table p : List ℕ} {ps : List (List ℕ)} {k : ℕ} {t : List ℕ} → full run ≡ false → happens run table p ≡ (refused k, t)
      → Call run table (p ∷ ps) (record { ending = stopped k; run = settled run (host_in p) (refused k); taken = length p; table = t })
  next : {run : Run} {table p : List ℕ} {ps : List (List ℕ)} {a : Turn} {t : List ℕ} {c : Course} → full run ≡ false
      → happens run table p ≡ (accepted a, t) → Call (settled run (host_in p) (accepted a)) t ps c → Call run table (p ∷ ps) (further (length p) c)

-- every call goes one of them
call : (run : Run) (table : List ℕ) (ps : List (List ℕ)) → Call run table ps (course run table ps)
unfolding course
call run table [] = none
call run table (p ∷ ps) = go (full run) (happens run table p) refl refl (λ r t. call r t ps)
  where
    go : (b : Bool) (x : Answer Turn × List ℕ) → full run ≡ b → happens run table p ≡ x → ((r : Run) (t : List ℕ) → Call r t ps (course r t ps))
        → Call run table (p ∷ ps) (cond b (resting run table) (onwards run p x (λ r t. course r t ps)))
    go true x f e rest = last f
    go false (refused k, t) f e rest = halt f e
    go false (accepted a, t) f e rest = next f e (rest (settled run (host_in p) (accepted a)) t)

-- and what goes so is the call
called : {run : Run} {table : List ℕ} {ps : List (List ℕ)} {c : Course} → Call run table ps c → course run table ps ≡ c
unfolding course
called none = refl
called {ps = []} (last f) = refl
called {ps = p ∷ ps} (last f) = rw f refl
called (halt f e) = rw (f, e) refl
called (next f e g) = rw (f, e, called g) refl

-- ---- A call over two parts

-- a call that ends goes on where there is more
ended_parts : {run : Run} {table : List ℕ} {ps : List (List ℕ)} {c : Course} (qs : List (List ℕ)) → Call run table ps c → c.ending ≡ ended
    → course run table (ps ++ qs) ≡ further c.taken (course c.run c.table qs)
ended_parts qs none q = rw zero-add refl
ended_parts qs (last f) q = called (last f) ∙ sym (ap (further 0) (called (last f)))
ended_parts qs (halt f e) q = cc
ended_parts {ps = p ∷ ps} qs (next f e g) q = called (next f e (call _ _ (ps ++ qs))) ∙ rw (ended_parts qs g q, add_assoc) refl

-- one that stops does not
stopped_parts : {run : Run} {table : List ℕ} {ps : List (List ℕ)} {c : Course} {k : ℕ} (qs : List (List ℕ)) → Call run table ps c
    → c.ending ≡ stopped k → Call run table (ps ++ qs) c
stopped_parts qs none q = absurd (true≢false (cc))
stopped_parts qs (last f) q = absurd (true≢false (cc))
stopped_parts qs (halt f e) q = halt f e
stopped_parts qs (next f e g) q = next f e (stopped_parts qs g q)

module _ (run : Run) (table : List ℕ) (ps qs : List (List ℕ)) where
  -- the call over the first part
  abbrev first : Course
  first = course run table ps

  -- where it ends, the call over both goes on from there over the second
  pub course_ended_parts : first.ending ≡ ended → course run table (ps ++ qs) ≡ further first.taken (course first.run first.table qs)
  course_ended_parts = ended_parts qs (call run table ps)

  -- where it stops, that is all
  pub course_stopped_parts : {k : ℕ} → first.ending ≡ stopped k → course run table (ps ++ qs) ≡ first
  course_stopped_parts q = called (stopped_parts qs (call run table ps) q)

-- ---- A call of the whole run

-- the run goes on behind the bytes that a call took
behind : {run : Run} {table : List ℕ} {ps : List (List ℕ)} {c : Course} (bytes : List ℕ) → Call run table ps c → pieces bytes ≡ ps
    → after run table ps ≡ after c.run c.table (pieces (drop c.taken bytes))
behind bytes none q = rw q refl
behind bytes (last f) q = rw q refl
behind {run} {table} {ps = p ∷ ps} bytes (halt f e) q = after_next run table p ps f e ∙ rw (first_piece bytes p ps q).2 refl
behind {run} {table} {ps = p ∷ ps} bytes (next {c = c} f e g) q =
    after_next run table p ps f e ∙ rw (← drop-drop c.taken (length p) bytes) (behind (drop (length p) bytes) g (first_piece bytes p ps q).2)

-- there is nothing behind a call that ends
all_after : {run : Run} {table : List ℕ} {ps : List (List ℕ)} {c : Course} → Call run table ps c → c.ending ≡ ended
    → after run table ps ≡ (c.run, c.table)
unfolding after
all_after none q = refl
all_after {run} {table} {ps} (last f) q = after_full run table ps f
all_after (halt f e) q = cc
all_after {run} {table} {ps = p ∷ ps} (next f e g) q = after_next run table p ps f e ∙ all_after g q

-- a call takes bytes that there are, and some where it stops
takes : {run : Run} {table : List ℕ} {ps : List (List ℕ)} {c : Course} (bytes : List ℕ) → Call run table ps c → pieces bytes ≡ ps
    → (c.taken ≤ length bytes) × ((k : ℕ) → c.ending ≡ stopped k → 0 < c.taken)
takes bytes none q = (omega arith, λ k r. absurd (true≢false (cc)))
takes bytes (last f) q = (omega arith, λ k r. absurd (true≢false (cc)))
takes {ps = p ∷ ps} bytes (halt f e) q = let (l, m, _) = first_piece bytes p ps q in (m, λ k r. l)
takes {ps = p ∷ ps} bytes (next f e g) q =
    let (l, m, r) = first_piece bytes p ps q in
    let (n, _) = takes (drop (length p) bytes) g r in
    (omega (arith, length-drop (length p) bytes), λ k s. omega arith)

module _ (run : Run) (table bytes : List ℕ) where
  -- what a call plays of the bytes
  abbrev part : Course
  part = course run table (pieces bytes)

  -- the whole run is the call's, and then that over the bytes which it did not take
  pub course_after : after run table (pieces bytes) ≡ after part.run part.table (pieces (drop part.taken bytes))
  course_after = behind bytes (call run table (pieces bytes)) refl

  -- where the call ends, that was all
  pub course_ended : part.ending ≡ ended → after run table (pieces bytes) ≡ (part.run, part.table)
  course_ended = all_after (call run table (pieces bytes))

  -- a call takes no more bytes than there are
  pub course_taken : part.taken ≤ length bytes
  course_taken = (takes bytes (call run table (pieces bytes)) refl).0

  -- and one at least where it stops at a refused event
  pub course_stopped : {k : ℕ} → part.ending ≡ stopped k → 0 < part.taken
  course_stopped {k} = (takes bytes (call run table (pieces bytes)) refl).1 k

-- ---- Calling again

-- the world and the table's length, which a call's guards ask about, stay
kept : {run : Run} {table : List ℕ} {ps : List (List ℕ)} {c : Course} → Call run table ps c
    → (length c.table ≡ length table) × (c.run.world ≡ run.world)
kept none = (refl, refl)
kept (last f) = (refl, refl)
kept {run} {table} {ps = p ∷ ps} (halt f e) = (rw (ap (λ x. x.1) e) at (event_length run table p), refl)
kept {run} {table} {ps = p ∷ ps} (next f e g) = let (l, w) = kept g in (l ∙ rw (ap (λ x. x.1) e) at (event_length run table p), w)

-- past its guards, a call says its course
played : (run : Run) (table bytes : List ℕ) → Clear (play_guards run table) → playing run table bytes ≡ course_says (course run table (pieces bytes))
unfolding playing
played run table bytes c = rw (passes (play_guards run table) (left (course run table (pieces bytes))) c) refl

-- "the next event follows": calling again after each refused event until the bytes end plays the whole run
pub replaying_after : (fuel : ℕ) (run : Run) (table bytes : List ℕ) → Clear (play_guards run table) → length bytes < fuel
    → replaying fuel run table bytes ≡ after run table (pieces bytes)
unfolding replaying
replaying_after zero run table bytes c l = absurd (omega arith)
replaying_after (suc fuel) run table bytes c l =
    rw (played run table bytes c) (go now.ending refl (replaying_after fuel now.run now.table rest still))
  where
    now : Course
    now = course run table (pieces bytes)

    rest : List ℕ
    rest = drop now.taken bytes

    still : Clear (play_guards now.run now.table)
    still = let (t, w) = kept (call run table (pieces bytes)) in rw (t, w) c

    go : (e : Ending) → now.ending ≡ e
        → (length rest < fuel → replaying fuel now.run now.table rest ≡ after now.run now.table (pieces rest))
        → calling bytes (accepted e, (now.run, now.taken, now.table)) (λ r t bs. replaying fuel r t bs) ≡ after run table (pieces bytes)
    go ended q again = sym (course_ended run table bytes q)
    go (stopped k) q again =
        again (omega (arith, length-drop now.taken bytes, course_taken run table bytes, course_stopped run table bytes q))
        ∙ sym (course_after run table bytes)

-- ---- What stays

-- what every event keeps, the run keeps
pub along {ℓ} : (P : Run → List ℕ → Type ℓ)
    → ((run : Run) (table piece : List ℕ) → P run table → P (run_after run table piece) (table_after run table piece))
    → (run : Run) (table : List ℕ) (ps : List (List ℕ)) → P run table → P (after run table ps).0 (after run table ps).1
unfolding after
along P f run table [] h = h
along P f run table (p ∷ ps) h =
    either (λ x. P x.0 x.1) (full run) (run, table) (after (run_after run table p) (table_after run table p) ps) (λ _. h)
    (λ _. along P f (run_after run table p) (table_after run table p) ps (f run table p h))

-- a count does not go past its end
counted_most : (k : ℕ) → k ≤ most_events → counted k ≤ most_events
counted_most k l = either (λ x. x ≤ most_events) (ltb k most_events) (k + 1) k (λ b. omega (arith, ltb-true k most_events b)) (λ b. l)

-- it does not go back
counted_up : (k : ℕ) → k ≤ counted k
counted_up k = either (λ x. k ≤ x) (ltb k most_events) (k + 1) k (λ b. omega arith) (λ b. omega arith)

-- and does not pass another that is counted with it
counted_with : (j k : ℕ) → j ≤ k → counted j ≤ counted k
counted_with j k l =
    either (λ x. x ≤ counted k) (ltb j most_events) (j + 1) j
    (λ b. either (λ x. j + 1 ≤ x) (ltb k most_events) (k + 1) k (λ c. omega arith)
    (λ c. omega (arith, ltb-true j most_events b, ltb-false k most_events c)))
    (λ b. omega (arith, counted_up k))

-- "it takes at most 4,294,967,295 events"
pub events_most : (run : Run) (table : List ℕ) (ps : List (List ℕ)) → run.events ≤ most_events → (after run table ps).0.events ≤ most_events
events_most = along (λ r t. r.events ≤ most_events) (λ run table p. go run (host_in p) (happens run table p).0)
  where
    go : (run : Run) (i : ℕ) (a : Answer Turn) → run.events ≤ most_events → (settled run i a).events ≤ most_events
    go run i (refused k) l = counted_most run.events l
    go run i (accepted a) l = counted_most run.events l

-- no more events are refused than there were
pub refused_most : (run : Run) (table : List ℕ) (ps : List (List ℕ)) → run.refused ≤ run.events
    → (after run table ps).0.refused ≤ (after run table ps).0.events
refused_most = along (λ r t. r.refused ≤ r.events) (λ run table p. go run (host_in p) (happens run table p).0)
  where
    go : (run : Run) (i : ℕ) (a : Answer Turn) → run.refused ≤ run.events → (settled run i a).refused ≤ (settled run i a).events
    go run i (refused k) l = counted_with run.refused run.events l
    go run i (accepted a) l = omega (arith, counted_up run.events)
