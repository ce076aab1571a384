-- What a turn changes: marks alone, of which none is lost, and the sent count where it broadcasts; and what it broadcasts. Assumes nothing.
use Prim.Native.Nat.{ℕ, ◌+◌, ◌/◌, ◌%◌, ◌≤◌, ◌<◌}
use mathlib.Core.Path.{◌≡◌, refl, ap, ◌∙◌}
use mathlib.Core.Bool.{true, false}
use mathlib.Core.List.{List}
use native.Mathlib.Omega.{arith}
use lib.ListN.{length, get_or}
use Rattle.answer.specs.Answer.{Answer, refused, accepted, guarded}
use Rattle.answer.proofs.Guards.{Clear, clear, leaves, lent_accepted}
use Rattle.frame.specs.declared.Frame.{Frame}
use Rattle.quorum.specs.Sets.{member}
use Rattle.quorum.specs.World.{thresholds_of}
use Rattle.quorum.specs.declared.World.{World}
use Rattle.quorum.specs.declared.Thresholds.{Thresholds}
use Rattle.quorum.proofs.Adding.{added}
use Rattle.host.specs.Words.{instance, VAL, AUX, marks_at, marks, sent_bit, begun_bit, has_sent, mark}
use Rattle.host.specs.Record.{Valid}
use Rattle.turn.specs.Applying.{Turn, idle, quiet, broadcast, frame_at, sends, applied}
use Rattle.turn.specs.Moves.{chosen}
use Rattle.turn.specs.Turning.{turn_guards, made, turning}
use Rattle.host.specs.declared.Host.{Host}
use Rattle.turn.specs.declared.choosing.Move.{Move}
use Rattle.turn.proofs.Choice.{echo_new, begin_new, aux_admitted, aux_none}
use Rattle.turn.proofs.Laws.{room}
use Rattle.turn.proofs.Within.{chosen_in}
use Rattle.view.proofs.Views.{sent_stays, view_valid}
use Rattle.host.proofs.Puts.{put_length, put_same, put_elsewhere, put_grows}
use Rattle.host.proofs.Ranges.{ready_clear, sent_valid}

-- ---- Refused and accepted

-- a refused turn leaves the words
pub turn_refused : (words : List ℕ) (h : Host) (w : World) (me : ℕ) {k : ℕ} {after : List ℕ}
    → turning words h w me ≡ (refused k, after) → after ≡ words
unfolding turning
turn_refused words h w me e = leaves words _ (guarded (turn_guards words h w me) (made words h (thresholds_of w) me)) e

-- an accepted turn makes the chosen move, and no guard refused it
pub turn_made : (words : List ℕ) (h : Host) (w : World) (me : ℕ) {a : Turn} {after : List ℕ} → turning words h w me ≡ (accepted a, after)
    → Clear (turn_guards words h w me) × (◌≡◌ {A = Turn × List ℕ} (a, after) (made words h (thresholds_of w) me))
unfolding turning
turn_made words h w me {after = after} e =
    let r = lent_accepted words after (guarded (turn_guards words h w me) (made words h (thresholds_of w) me)) e in
    clear (turn_guards words h w me) (made words h (thresholds_of w) me) r

-- ---- The words

applied_by : (P : List ℕ → Type 0) (words : List ℕ) (h : Host) (me : ℕ) (m : Move) → P words
    → ((ws : List ℕ) (i j : ℕ) → P ws → P (mark ws i j)) → P (applied words h me m).1
applied_by P words h me Move.Idle p f = p
applied_by P words h me (Move.Echo i v) p f = f words i _ p
applied_by P words h me (Move.Admit i v) p f = f words i _ p
applied_by P words h me (Move.BeginUnsent i) p f = f words i _ p
applied_by P words h me (Move.Begin i v) p f = f _ i _ (f words i _ p)
applied_by P words h me (Move.Aux i v) p f = f words i _ p
applied_by P words h me (Move.View view) p f = p

-- what holds of the words and of whatever gets a mark holds after a turn
by_turn : (P : List ℕ → Type 0) (words : List ℕ) (h : Host) (w : World) (me : ℕ) (a : Answer Turn) (after : List ℕ) → P words
    → ((ws : List ℕ) (i j : ℕ) → P ws → P (mark ws i j)) → turning words h w me ≡ (a, after) → P after
by_turn P words h w me (refused k) after p f e = rw (turn_refused words h w me e) p
by_turn P words h w me (accepted a) after p f e =
    let (_, t) = turn_made words h w me e in
    rw (ap (λ x. x.1) t) (applied_by P words h me (chosen words h (thresholds_of w)) p f)

-- a turn changes only marks
pub turn_marks : (words : List ℕ) (h : Host) (w : World) (me : ℕ) {a : Answer Turn} {after : List ℕ} → turning words h w me ≡ (a, after)
    → (length after ≡ length words) × ((at : ℕ) → (at % 7 ≡ 6 → ⊥) → get_or after at 0 ≡ get_or words at 0)
turn_marks words h w me e =
    by_turn (λ ws. (length ws ≡ length words) × ((at : ℕ) → (at % 7 ≡ 6 → ⊥) → get_or ws at 0 ≡ get_or words at 0)) words h w me _ _
    (refl, λ at n. refl)
    (λ ws i j (l, same). (put_length ws (marks_at i) j ∙ l, λ at n. put_elsewhere ws (marks_at i) j at (λ q. n (omega arith)) ∙ same at n))
    e

-- and no mark is lost
pub marks_grow : (words : List ℕ) (h : Host) (w : World) (me : ℕ) {a : Answer Turn} {after : List ℕ} → turning words h w me ≡ (a, after)
    → (i j : ℕ) → member (marks words i) j ≡ true → member (marks after i) j ≡ true
unfolding marks
marks_grow words h w me e i j t =
    by_turn (λ ws. member (get_or ws (marks_at i) 0) j ≡ true) words h w me _ _ t (λ ws k b. put_grows ws (marks_at k) b (marks_at i) j) e

-- ---- The sent count

Sent : Host → Turn → Type 0
Sent h idle = Unit
Sent h (quiet g) = g.sent ≡ h.sent
Sent h (broadcast g f) = g.sent ≡ h.sent + 1

applied_sent : (words : List ℕ) (h : Host) (me : ℕ) (m : Move) → Sent h (applied words h me m).0
unfolding Sent
applied_sent words h me Move.Idle = tt
applied_sent words h me (Move.Echo i v) = refl
applied_sent words h me (Move.Admit i v) = refl
applied_sent words h me (Move.BeginUnsent i) = refl
applied_sent words h me (Move.Begin i v) = refl
applied_sent words h me (Move.Aux i v) = refl
applied_sent words h me (Move.View view) = sent_stays h view

sent_by : (words : List ℕ) (h : Host) (w : World) (me : ℕ) (a : Turn) (after : List ℕ) → turning words h w me ≡ (accepted a, after) → Sent h a
sent_by words h w me a after e =
    let (_, t) = turn_made words h w me e in
    rw (ap (λ x. x.0) t) (applied_sent words h me (chosen words h (thresholds_of w)))

-- the sent count is that of the frames broadcast: one more with a broadcast
pub turn_sent : (words : List ℕ) (h : Host) (w : World) (me : ℕ) {g : Host} {f : Frame} {after : List ℕ}
    → turning words h w me ≡ (accepted (broadcast g f), after) → g.sent ≡ h.sent + 1
unfolding Sent
turn_sent words h w me e = sent_by words h w me _ _ e

-- and the same without
pub quiet_sent : (words : List ℕ) (h : Host) (w : World) (me : ℕ) {g : Host} {after : List ℕ}
    → turning words h w me ≡ (accepted (quiet g), after) → g.sent ≡ h.sent
unfolding Sent
quiet_sent words h w me e = sent_by words h w me _ _ e

-- ---- The record

-- the record that an accepted turn answers, if any
abbrev After : (Host → Type 0) → Turn → Type 0
After P idle = Unit
After P (quiet g) = P g
After P (broadcast g f) = P g

applied_valid : (words : List ℕ) (h : Host) (me : ℕ) (m : Move) → Valid h → (sends m ≡ true → h.sent < 224) → After Valid (applied words h me m).0
applied_valid words h me Move.Idle d f = tt
applied_valid words h me (Move.Echo i v) d f = sent_valid h d (f refl)
applied_valid words h me (Move.Admit i v) d f = d
applied_valid words h me (Move.BeginUnsent i) d f = d
applied_valid words h me (Move.Begin i v) d f = sent_valid h d (f refl)
applied_valid words h me (Move.Aux i v) d f = sent_valid h d (f refl)
applied_valid words h me (Move.View view) d f = view_valid h view d

-- a turn answers a record in range, so that the next call does not refuse it by 13
pub turn_valid : (words : List ℕ) (h : Host) (w : World) (me : ℕ) {a : Turn} {after : List ℕ} → turning words h w me ≡ (accepted a, after)
    → After Valid a
turn_valid words h w me {a} e =
    let ((r, (n, (t, (g5, (g6, (g10, (full, _))))))), made) = turn_made words h w me e in
    let (_, d, _) = ready_clear (length words) h w (r, (n, (t, tt))) in
    let m = chosen words h (thresholds_of w) in
    rw (ap (λ x. x.0) made) (applied_valid words h me m d (room h (sends m) d.sent full))

-- ---- The frame

-- a frame that a turn broadcasts, with the words before and after it: the host's own, new in its instance, and marked there from now on
abbrev pub Spoken : List ℕ → List ℕ → ℕ → Frame → Type 0
Spoken words after me f =
    (f.sender ≡ me) × (has_sent words f.kind (instance f.round f.phase f.stage) f.value ≡ false)
    × (has_sent after f.kind (instance f.round f.phase f.stage) f.value ≡ true)

spoken : (words after : List ℕ) (kind i v me : ℕ) → i < 64 → has_sent words kind i v ≡ false → has_sent after kind i v ≡ true
    → Spoken words after me (frame_at kind i v me)
spoken words after kind i v me l a b =
    let place : instance (i / 4 + 1) (i / 2 % 2 + 1) (i % 2) ≡ i = omega arith in
    rw place (refl, a, b)

marked : (words : List ℕ) (i j : ℕ) → marks_at i < length words → member (marks (mark words i j) i) j ≡ true
unfolding marks
marked words i j l = rw (put_same words (marks_at i) j l) (added (get_or words (marks_at i) 0) j)

-- no other answer has a frame
pub quiet_frame : {g k : Host} {f : Frame} → broadcast g f ≡ quiet k → ⊥
quiet_frame e = cc

pub idle_frame : {g : Host} {f : Frame} → broadcast g f ≡ idle → ⊥
idle_frame e = cc

-- the frame and the words are those of the move
told : (words : List ℕ) {after ws : List ℕ} (me : ℕ) {g k : Host} {f x : Frame} → broadcast g f ≡ broadcast k x → after ≡ ws
    → Spoken words ws me x → Spoken words after me f
told words me {f = f} {x = x} e q p =
    let s : f ≡ x = cc in
    rw (s, q) p

speaks : (words : List ℕ) (h : Host) (s : Thresholds) (me : ℕ) (m : Move) {g : Host} {f : Frame} {after : List ℕ} → 448 ≤ length words → Valid h
    → chosen words h s ≡ m → ◌≡◌ {A = Turn × List ℕ} (broadcast g f, after) (applied words h me m) → Spoken words after me f
speaks words h s me Move.Idle l d c e = absurd (idle_frame (ap (λ x. x.0) e))
speaks words h s me (Move.Echo i v) l d c e =
    let (in64, _) = rw c at (chosen_in words h s d) in
    let (_, new) = echo_new words h s i v c in
    told words me (ap (λ x. x.0) e) (ap (λ x. x.1) e) (spoken words _ VAL i v me in64 new (marked words i (sent_bit VAL v) (omega arith)))
speaks words h s me (Move.Admit i v) l d c e = absurd (quiet_frame (ap (λ x. x.0) e))
speaks words h s me (Move.BeginUnsent i) l d c e = absurd (quiet_frame (ap (λ x. x.0) e))
speaks words h s me (Move.Begin i v) l d c e =
    let (in64, _) = rw c at (chosen_in words h s d) in
    let (_, _, _, new) = begin_new words h s i v c in
    let begun = put_length words (marks_at i) begun_bit in
    told words me (ap (λ x. x.0) e) (ap (λ x. x.1) e) (spoken words _ VAL i v me in64 new (marked (mark words i begun_bit) i (sent_bit VAL v) (omega arith)))
speaks words h s me (Move.Aux i v) l d c e =
    let (in64, _) = rw c at (chosen_in words h s d) in
    let (_, _, none, below, _, _) = aux_admitted words h s i v c in
    told words me (ap (λ x. x.0) e) (ap (λ x. x.1) e)
    (spoken words _ AUX i v me in64 (aux_none words i none v below) (marked words i (sent_bit AUX v) (omega arith)))
speaks words h s me (Move.View view) l d c e = absurd (quiet_frame (ap (λ x. x.0) e))

-- a host broadcasts a frame once: what a turn broadcasts is its own, was not marked as sent, and is from then on
pub broadcast_once : (words : List ℕ) (h : Host) (w : World) (me : ℕ) {g : Host} {f : Frame} {after : List ℕ}
    → turning words h w me ≡ (accepted (broadcast g f), after) → Spoken words after me f
broadcast_once words h w me e =
    let ((r, (n, (t, _))), made) = turn_made words h w me e in
    let (l, d, _) = ready_clear (length words) h w (r, (n, (t, tt))) in
    speaks words h (thresholds_of w) me (chosen words h (thresholds_of w)) l d refl made
