-- The frames that a host's marks say it has broadcast are those that it has broadcast. Assumes nothing.
use Prim.Native.Nat.{ℕ, zero, suc, ◌+◌, ◌*◌, ◌/◌, ◌≤◌, ◌<◌}
use mathlib.Core.Path.{◌≡◌, refl, sym, ap, ◌∙◌}
use mathlib.Core.Bool.{Bool, true, false, cond, ◌&&◌, true≢false}
use mathlib.Core.List.{List, [], ◌∷◌, ◌++◌}
use native.Mathlib.Decide.{ℕ_discrete, dec_lt}
use native.Mathlib.Omega.{arith}
use borrow.Author.Tests.{eqb-true, eq-eqb, ne_eqb, lt-ltb, le-ltb}
use lib.Dec.{eqb, ltb, eqb-suc-suc}
use lib.ListN.{length, get_or, take, drop, replicate, length-take, get_or-eq_default}
use lib.Seq.{get_or-take, get_or-drop}
use Rattle.answer.specs.Answer.{Answer, refused, accepted}
use Rattle.std.proofs.lemmas.Bool.{and_parts}
use Rattle.answer.proofs.Tests.{either}
use Rattle.frame.specs.declared.Frame.{Frame}
use Rattle.quorum.specs.Count.{one, count}
use Rattle.quorum.specs.World.{thresholds_of}
use Rattle.quorum.specs.declared.World.{World}
use Rattle.quorum.specs.declared.Thresholds.{Thresholds}
use Rattle.quorum.proofs.Adding.{added, member_none}
use Rattle.quorum.proofs.Counting.{one_more, count_more, count_none}
use Rattle.host.specs.Words.{values, VAL, AUX, marks_at, marks, sent_bit, admit_bit, begun_bit, has_sent, mark}
use Rattle.host.specs.Record.{Valid}
use Rattle.host.specs.declared.Host.{Host}
use Rattle.host.proofs.Puts.{put_length, put_same, put_others}
use Rattle.host.proofs.Ranges.{ready_clear}
use Rattle.delivery.specs.Recording.{frame_instance}
use Rattle.delivery.specs.Delivery.{delivering, delivering_word}
use Rattle.delivery.proofs.Changes.{word_delivered, delivery_told, delivery_one_bit}
use Rattle.turn.specs.Moves.{chosen}
use Rattle.turn.specs.Applying.{Turn, idle, quiet, broadcast, answered, marked_by}
use Rattle.turn.specs.Turning.{turning}
use Rattle.turn.specs.declared.choosing.Move.{Move}
use Rattle.turn.proofs.Choice.{echo_new, begin_new, aux_admitted, aux_none}
use Rattle.turn.proofs.Within.{chosen_in}
use Rattle.turn.proofs.Turns.{turn_made}
use Rattle.turn.proofs.Packable.{own_low}
use Rattle.file.specs.declared.Event.{Event}
use Rattle.table.specs.Table.{part_of}
use Rattle.table.specs.Stepping.{delivers, stepping}
use Rattle.table.proofs.Steps.{step_others, step_turn, step_delivery}
use Rattle.run.specs.Playing.{host_in, happens, full, run_after, table_after, after}
use Rattle.run.specs.Broadcasts.{frames_of, broadcasts}
use Rattle.run.specs.declared.Run.{Run}
use Rattle.run.proofs.Happening.{step_of, refused_leaves, event_step}
use Rattle.safety.specs.Demand.{cleared, in_round}
use Rattle.safety.proofs.Rounds.{in_append}

-- ---- Counting

-- one of two kinds
one_kind : (b : Bool) (k : ℕ) → k < 2 → one (b && eqb k 0) + one (b && eqb k 1) ≡ one b
one_kind false k l = refl
one_kind true zero l = refl
one_kind true (suc zero) l = refl
one_kind true (suc (suc k)) l = absurd (omega arith)

-- one of the four instances of a round
below_round : (i r : ℕ) → one (ltb i (4 * r)) ≡ one (ltb (i / 4) r)
below_round i r = go (dec_lt i (4 * r))
  where
    go : Dec (i < 4 * r) → one (ltb i (4 * r)) ≡ one (ltb (i / 4) r)
    go (yes l) = rw (lt-ltb i (4 * r) l, lt-ltb (i / 4) r (omega arith)) refl
    go (no g) = rw (le-ltb i (4 * r) (omega arith), le-ltb (i / 4) r (omega arith)) refl

one_instance : (b : Bool) (i r : ℕ)
    → one (b && eqb i (4 * r)) + one (b && eqb i (4 * r + 1)) + one (b && eqb i (4 * r + 2)) + one (b && eqb i (4 * r + 3))
    ≡ one (b && eqb (i / 4 + 1) (suc r))
one_instance false i r = refl
one_instance true i r =
    let n = 4 * r in
    let next : i / 4 + 1 ≡ suc (i / 4) = omega arith in
    let a = one_more i n (n + 1) (omega arith) in
    let b = one_more i (n + 1) (n + 2) (omega arith) in
    let c = one_more i (n + 2) (n + 3) (omega arith) in
    let d = one_more i (n + 3) (4 * suc r) (omega arith) in
    rw (next, eqb-suc-suc (i / 4) r) (omega (arith, below_round i r, below_round i (suc r), one_more (i / 4) r (suc r) refl))

-- ---- What marks say

-- how many frames of instance i a host's marks say that it has broadcast
unfoldable pub said_in : List ℕ → ℕ → ℕ
said_in words i = count (values i) (has_sent words VAL i) + count (values i) (has_sent words AUX i)

-- how many of round r + 1: of its four instances
unfoldable pub spoken : List ℕ → ℕ → ℕ
spoken words r = said_in words (4 * r) + said_in words (4 * r + 1) + said_in words (4 * r + 2) + said_in words (4 * r + 3)

-- words whose marks say the frames that others say, and, where b says so, one more: of a kind and a value in instance i
module _ (words after : List ℕ) (b : Bool) (kind i v : ℕ) (two : kind < 2) (low : v < values i)
    (more : (k j x : ℕ) → x < 3 → one (has_sent after k j x) ≡ one (has_sent words k j x) + one (b && eqb i j && eqb kind k && eqb v x)) where
  said_more : (j : ℕ) → said_in after j ≡ said_in words j + one (b && eqb i j)
  unfolding said_in
  said_more j = omega (arith, by VAL, by AUX, one_kind (b && eqb i j) kind two)
    where
      here : (k : ℕ) → b && eqb i j && eqb kind k ≡ true → v < values j
      here k e =
          let (c, _) = and_parts (b && eqb i j) (eqb kind k) e in
          let (_, d) = and_parts b (eqb i j) c in
          rw (eqb-true i j d) at low

      by : (k : ℕ) → count (values j) (has_sent after k j) ≡ count (values j) (has_sent words k j) + one (b && eqb i j && eqb kind k)
      by k = count_more (values j) (has_sent words k j) (has_sent after k j) (b && eqb i j && eqb kind k) v (here k) (λ x l. more k j x (omega arith))

  spoken_more : (r : ℕ) → spoken after r ≡ spoken words r + one (b && eqb (i / 4 + 1) (suc r))
  unfolding spoken
  spoken_more r =
      let n = 4 * r in
      omega (arith, said_more n, said_more (n + 1), said_more (n + 2), said_more (n + 3), one_instance b i r)

-- the same frames
same_spoken : (words after : List ℕ) → ((k j x : ℕ) → x < 3 → has_sent after k j x ≡ has_sent words k j x) → (r : ℕ) → spoken after r ≡ spoken words r
same_spoken words after same r =
    omega (arith, spoken_more words after false 0 0 0 (omega arith) (omega arith) (λ k j x l. rw (same k j x l) (omega arith)) r)

-- ---- What a turn marks

-- a mark of no frame
other_same : (words : List ℕ) (i bit : ℕ) → 3 ≤ bit → bit < 7 → (k j x : ℕ) → x < 3 → has_sent (mark words i bit) k j x ≡ has_sent words k j x
unfolding marks
other_same words i bit low high k j x l = put_others words (marks_at i) bit (marks_at j) (sent_bit k x) (λ (p, q). omega arith)

-- a new mark of a frame
sent_one_lem : (words : List ℕ) (kind i v : ℕ) → v < 3 → marks_at i < length words → has_sent words kind i v ≡ false → (k j x : ℕ) → x < 3
    → one (has_sent (mark words i (sent_bit kind v)) k j x) ≡ one (has_sent words k j x) + one (eqb i j && eqb kind k && eqb v x)
unfolding marks
sent_one_lem words kind i v low here new k j x l = go (eqb i j && eqb kind k && eqb v x) refl
  where
    go : (b : Bool) → eqb i j && eqb kind k && eqb v x ≡ b → one (has_sent (mark words i (sent_bit kind v)) k j x) ≡ one (has_sent words k j x) + one b
    go true e =
        let (c, d) = and_parts (eqb i j && eqb kind k) (eqb v x) e in
        let (a, b) = and_parts (eqb i j) (eqb kind k) c in
        let set = added (get_or words (marks_at i) 0) (sent_bit kind v) in
        rw (← eqb-true i j a, ← eqb-true kind k b, ← eqb-true v x d, put_same words (marks_at i) (sent_bit kind v) here, set, new) refl
    go false e =
        rw (put_others words (marks_at i) (sent_bit kind v) (marks_at j) (sent_bit k x)
        (λ (p, q). true≢false (rw (eq-eqb i j (omega arith), eq-eqb kind k (omega arith), eq-eqb v x (omega arith)) at e))) (omega arith)

sent_spoken : (words : List ℕ) (kind i v : ℕ) → kind < 2 → v < values i → marks_at i < length words → has_sent words kind i v ≡ false → (r : ℕ)
    → spoken (mark words i (sent_bit kind v)) r ≡ spoken words r + one (eqb (i / 4 + 1) (suc r))
sent_spoken words kind i v two low here new =
    spoken_more words (mark words i (sent_bit kind v)) true kind i v two low (sent_one_lem words kind i v (omega arith) here new)

-- the frames that a turn broadcast: one at most
abbrev frames_in : Turn → List Frame
frames_in idle = []
frames_in (quiet g) = []
frames_in (broadcast g f) = f ∷ []

move_spoken : (words : List ℕ) (h : Host) (s : Thresholds) (me : ℕ) (m : Move) (r : ℕ) → 448 ≤ length words → Valid h → chosen words h s ≡ m
    → spoken (marked_by words m) r ≡ spoken words r + in_round (suc r) (frames_in (answered h me m))
unfolding in_round
move_spoken words h s me Move.Idle r l d c = omega arith
move_spoken words h s me (Move.Echo i v) r l d c =
    let (in64, _) = rw c at (chosen_in words h s d) in
    let (low, new) = echo_new words h s i v c in
    omega (arith, sent_spoken words VAL i v (omega arith) low (omega arith) new r)
move_spoken words h s me (Move.Admit i v) r l d c =
    let (_, three) = rw c at (chosen_in words h s d) in
    omega (arith, same_spoken words (mark words i (admit_bit v)) (other_same words i (admit_bit v) (omega arith) (omega arith)) r)
move_spoken words h s me (Move.BeginUnsent i) r l d c =
    omega (arith, same_spoken words (mark words i begun_bit) (other_same words i begun_bit (omega arith) (omega arith)) r)
move_spoken words h s me (Move.Begin i v) r l d c =
    let (in64, three) = rw c at (chosen_in words h s d) in
    let (here, own, _, new) = begin_new words h s i v c in
    let low : v < values i = rw (here, own) (own_low h d) in
    let begun = mark words i begun_bit in
    let same = other_same words i begun_bit (omega arith) (omega arith) in
    let room : marks_at i < length begun = rw (put_length words (marks_at i) begun_bit) (omega arith) in
    omega (arith, same_spoken words begun same r, sent_spoken begun VAL i v (omega arith) low room (same VAL i v three ∙ new) r)
move_spoken words h s me (Move.Aux i v) r l d c =
    let (in64, _) = rw c at (chosen_in words h s d) in
    let (_, _, none, low, _, _) = aux_admitted words h s i v c in
    omega (arith, sent_spoken words AUX i v (omega arith) low (omega arith) (aux_none words i none v low) r)
move_spoken words h s me (Move.View view) r l d c = omega arith

-- a turn marks the frame that it broadcasts, and no other
turn_spoken : (words : List ℕ) (h : Host) (w : World) (me : ℕ) {a : Turn} {after : List ℕ} → turning words h w me ≡ (accepted a, after)
    → (r : ℕ) → spoken after r ≡ spoken words r + in_round (suc r) (frames_in a)
turn_spoken words h w me e r =
    let ((g13, (g2, (g3, _))), made) = turn_made words h w me e in
    let (l, d, _) = ready_clear (length words) h w (g13, (g2, (g3, tt))) in
    rw (ap (λ x. x.0) made, ap (λ x. x.1) made) (move_spoken words h (thresholds_of w) me (chosen words h (thresholds_of w)) r l d refl)

-- ---- What a delivery leaves

-- marks are in no word of a set
apart : (j i c : ℕ) → c < 6 → marks_at j ≡ 7 * i + c → ⊥
apart j i c l e = omega arith

frame_same : (words : List ℕ) (h : Host) (w : World) (f : Frame) (b : Bool) {after : List ℕ} → delivering words h w f b ≡ (accepted tt, after)
    → (k j x : ℕ) → has_sent after k j x ≡ has_sent words k j x
unfolding marks
frame_same words h w f b e k j x =
    let (t, _) = delivery_told words h w f b e in
    (delivery_one_bit words h w f b e).2 (marks_at j) (sent_bit k x)
    (λ (p, _). apart j (frame_instance f) (3 * f.kind + f.value) (omega (arith, t.kind, t.value)) (omega arith))

-- a delivery marks no frame
delivery_spoken : (words : List ℕ) (h : Host) (w : World) (word : ℕ) (b : Bool) {after : List ℕ}
    → delivering_word words h w word b ≡ (accepted tt, after) → (r : ℕ) → spoken after r ≡ spoken words r
delivery_spoken words h w word b {after} e =
    let (f, _, q) = word_delivered words h w word b e in
    same_spoken words after (λ k j x _. frame_same words h w f b q k j x)

-- ---- A whole run

-- an accepted step marks, of its host, the frame that it broadcasts
step_spoken : (table : List ℕ) (h s : Host) (w : World) (e : Event) (a : Turn) (t : List ℕ) → stepping table h s w e ≡ (accepted a, t) → (r : ℕ)
    → spoken (part_of t e.host) r ≡ spoken (part_of table e.host) r + in_round (suc r) (frames_in a)
unfolding in_round
step_spoken table h s w e a t q r = go (delivers e) refl
  where
    go : (b : Bool) → delivers e ≡ b → spoken (part_of t e.host) r ≡ spoken (part_of table e.host) r + in_round (suc r) (frames_in a)
    go true d = let (given, still) = step_delivery table h s w e d q in rw still (omega (arith, delivery_spoken _ _ _ _ _ given r))
    go false d = turn_spoken (part_of table e.host) h w e.host (step_turn table h s w e d q) r

-- what an accepted event broadcast is what its turn did, where that was host i's
frames_are : (i : ℕ) (piece : List ℕ) (a : Turn) → frames_of i piece (accepted a) ≡ cond (eqb (host_in piece) i) (frames_in a) []
frames_are i piece idle = either (λ x. [] ≡ x) (eqb (host_in piece) i) [] [] (λ _. refl) (λ _. refl)
frames_are i piece (quiet g) = either (λ x. [] ≡ x) (eqb (host_in piece) i) [] [] (λ _. refl) (λ _. refl)
frames_are i piece (broadcast g f) = refl

event_spoken : (run : Run) (table piece : List ℕ) (i r : ℕ)
    → spoken (part_of (table_after run table piece) i) r ≡ spoken (part_of table i) r + in_round (suc r) (frames_of i piece (happens run table piece).0)
unfolding in_round
event_spoken run table piece i r = go (happens run table piece) refl
  where
    own : (a : Turn) (t : List ℕ) → step_of run table piece (host_in piece) ≡ (accepted a, t) → Dec (host_in piece ≡ i)
        → spoken (part_of t i) r ≡ spoken (part_of table i) r + in_round (suc r) (cond (eqb (host_in piece) i) (frames_in a) [])
    own a t q (yes s) = rw (eq-eqb (host_in piece) i s, ← s) (step_spoken table _ _ _ _ a t q r)
    own a t q (no d) = rw (ne_eqb (host_in piece) i d, step_others table _ _ _ _ i q (λ s. d (sym s))) (omega arith)

    go : (x : Answer Turn × List ℕ) → happens run table piece ≡ x
        → spoken (part_of x.1 i) r ≡ spoken (part_of table i) r + in_round (suc r) (frames_of i piece x.0)
    go (refused k, t) e = rw (refused_leaves run table piece e).0 (omega arith)
    go (accepted a, t) e = rw (frames_are i piece a) (own a t (event_step run table piece e) (ℕ_discrete (host_in piece) i))

-- what the marks of a host say more after a run are the frames that it broadcast in it
frames_marked : (run : Run) (table : List ℕ) (ps : List (List ℕ)) (i r : ℕ)
    → spoken (part_of (after run table ps).1 i) r ≡ spoken (part_of table i) r + in_round (suc r) (broadcasts run table ps i)
unfolding after broadcasts in_round
frames_marked run table [] i r = omega arith
frames_marked run table (p ∷ ps) i r = go (full run) (frames_marked run₁ table₁ ps i r)
  where
    run₁ : Run
    run₁ = run_after run table p

    table₁ : List ℕ
    table₁ = table_after run table p

    now : List Frame
    now = frames_of i p (happens run table p).0

    go : (b : Bool) → spoken (part_of (after run₁ table₁ ps).1 i) r ≡ spoken (part_of table₁ i) r + in_round (suc r) (broadcasts run₁ table₁ ps i)
        → spoken (part_of (cond b (run, table) (after run₁ table₁ ps)).1 i) r
        ≡ spoken (part_of table i) r + in_round (suc r) (cond b [] (now ++ broadcasts run₁ table₁ ps i))
    go true e = omega arith
    go false e = omega (arith, event_spoken run table p i r, in_append (suc r) now (broadcasts run₁ table₁ ps i))

-- ---- From a cleared table

-- words of zeros have no mark
unmarked : (words : List ℕ) → ((j : ℕ) → get_or words j 0 ≡ 0) → (r : ℕ) → spoken words r ≡ 0
unfolding spoken said_in marks
unmarked words zeros r = omega (arith, said (4 * r), said (4 * r + 1), said (4 * r + 2), said (4 * r + 3))
  where
    by : (k i : ℕ) → count (values i) (has_sent words k i) ≡ 0
    by k i = count_none (values i) (has_sent words k i) (λ x. rw (zeros (marks_at i)) (member_none (sent_bit k x)))

    said : (i : ℕ) → said_in words i ≡ 0
    said i = omega (arith, by VAL i, by AUX i)

-- a table of zeros has only such parts
part_zeros : (table : List ℕ) → ((j : ℕ) → get_or table j 0 ≡ 0) → (i j : ℕ) → get_or (part_of table i) j 0 ≡ 0
unfolding part_of
part_zeros table zeros i j = go (dec_lt j 448)
  where
    go : Dec (j < 448) → get_or (take 448 (drop (448 * i) table)) j 0 ≡ 0
    go (yes l) = rw (get_or-take 448 (drop (448 * i) table) j 0 l, get_or-drop (448 * i) table j 0) (zeros (448 * i + j))
    go (no g) = get_or-eq_default (take 448 (drop (448 * i) table)) 0 (rw (length-take 448 (drop (448 * i) table)) (omega arith))

all_zeros : (n j : ℕ) → ◌≡◌ {A = ℕ} (get_or (replicate n 0) j 0) 0
all_zeros zero j = refl
all_zeros (suc n) zero = refl
all_zeros (suc n) (suc j) = all_zeros n j

-- each word of a cleared table is 0
pub cleared_words : (i j : ℕ) → get_or (part_of cleared i) j 0 ≡ 0
cleared_words = part_zeros cleared (all_zeros 14336)

-- its marks say no frame
clear_spoken : (i r : ℕ) → spoken (part_of cleared i) r ≡ 0
clear_spoken i = unmarked (part_of cleared i) (cleared_words i)

-- from a cleared table on, marks say the frames that a host has broadcast
pub marked : (run : Run) (ps : List (List ℕ)) (i r : ℕ)
    → in_round (suc r) (broadcasts run cleared ps i) ≡ spoken (part_of (after run cleared ps).1 i) r
marked run ps i r = omega (arith, frames_marked run cleared ps i r, clear_spoken i r)
