-- What a turn broadcasts can be packed: every field of the frame is in its range. Assumes nothing.
use Prim.Native.Nat.{ℕ, ◌+◌, ◌/◌, ◌%◌, ◌<◌}
use mathlib.Core.Path.{◌≡◌, refl, ap}
use mathlib.Core.Bool.{Bool, true, false, ◌&&◌, and-false}
use mathlib.Core.List.{List}
use native.Mathlib.Decide.{ℕ_discrete}
use native.Mathlib.Omega.{arith}
use lib.Dec.{eqb}
use lib.ListN.{length}
use borrow.Author.Tests.{le-ltb, leb-false, eqb-true, ne_eqb}
use Rattle.answer.specs.Answer.{accepted}
use Rattle.answer.proofs.Guards.{passes}
use Rattle.frame.specs.Frame.{word_of, bad_round, bad_value, unnamed, pack_guards, packing}
use Rattle.frame.specs.declared.Frame.{Frame}
use Rattle.quorum.specs.World.{thresholds_of}
use Rattle.quorum.specs.declared.World.{World}
use Rattle.quorum.specs.declared.Thresholds.{Thresholds}
use Rattle.host.specs.Words.{values, VAL, AUX}
use Rattle.host.specs.Record.{Valid}
use Rattle.host.specs.declared.Host.{Host}
use Rattle.host.proofs.Ranges.{ready_clear}
use Rattle.turn.specs.Moves.{current, chosen}
use Rattle.turn.specs.Applying.{broadcast, frame_at, answered}
use Rattle.turn.specs.Turning.{turning}
use Rattle.turn.specs.declared.choosing.Move.{Move}
use Rattle.turn.proofs.Within.{chosen_in}
use Rattle.turn.proofs.Choice.{echo_new, begin_new, aux_admitted}
use Rattle.turn.proofs.Turns.{turn_made, quiet_frame, idle_frame}

not_neither : (v s : ℕ) (b : Bool) → eqb s 0 ≡ b → v < 2 + s → eqb v 2 && b ≡ false
not_neither v s true e l =
    let z = eqb-true s 0 e in
    rw (ne_eqb v 2 (λ q. omega arith)) refl
not_neither v s false e l = and-false (eqb v 2)

-- a frame of an instance, with a value of the instance and a sender that the layout has bits for
packs : (kind i v me : ℕ) → kind < 2 → i < 64 → v < values i → me < 32 → packing (frame_at kind i v me) ≡ accepted (word_of (frame_at kind i v me))
unfolding packing
packs kind i v me a l c m =
    let f = frame_at kind i v me in
    let round : bad_round f.round ≡ false = simp (ne_eqb (i / 4 + 1) 0 (λ z. omega arith), le-ltb 16 (i / 4 + 1) (omega arith)) in
    let value : bad_value v (i % 2) ≡ false = simp (le-ltb 2 v (omega arith), not_neither v (i % 2) (eqb (i % 2) 0) refl c) in
    let named : unnamed f ≡ false =
    simp (le-ltb 1 kind (omega arith), ne_eqb (i / 2 % 2 + 1) 0 (λ z. omega arith), le-ltb 2 (i / 2 % 2 + 1) (omega arith), le-ltb 1 (i % 2) (omega arith)) in
    passes (pack_guards f) (word_of f) (round, (value, (named, (le-ltb 31 me (omega arith), tt))))

-- the own value is one of the current instance
pub own_low : (h : Host) → Valid h → h.own < values (current h)
own_low h d = go (ℕ_discrete h.stage 0)
  where
    go : Dec (h.stage ≡ 0) → h.own < values (current h)
    go (yes z) = let s = d.same z in omega arith
    go (no n) = omega arith

same_frame : {g k : Host} {f x : Frame} → broadcast g f ≡ broadcast k x → packing x ≡ accepted (word_of x) → packing f ≡ accepted (word_of f)
same_frame {f = f} {x = x} e p =
    let s : f ≡ x = cc in
    rw s p

answer_packs : (words : List ℕ) (h : Host) (s : Thresholds) (me : ℕ) (m : Move) {g : Host} {f : Frame} → Valid h → me < 32
    → chosen words h s ≡ m → broadcast g f ≡ answered h me m → packing f ≡ accepted (word_of f)
answer_packs words h s me Move.Idle d l c e = absurd (idle_frame e)
answer_packs words h s me (Move.Echo i v) d l c e =
    let (in64, _) = rw c at (chosen_in words h s d) in
    same_frame e (packs VAL i v me (omega arith) in64 (echo_new words h s i v c).0 l)
answer_packs words h s me (Move.Admit i v) d l c e = absurd (quiet_frame e)
answer_packs words h s me (Move.BeginUnsent i) d l c e = absurd (quiet_frame e)
answer_packs words h s me (Move.Begin i v) d l c e =
    let (in64, _) = rw c at (chosen_in words h s d) in
    let (here, own, _, _) = begin_new words h s i v c in
    same_frame e (packs VAL i v me (omega arith) in64 (rw (here, own) (own_low h d)) l)
answer_packs words h s me (Move.Aux i v) d l c e =
    let (in64, _) = rw c at (chosen_in words h s d) in
    let (_, _, _, below, _, _) = aux_admitted words h s i v c in
    same_frame e (packs AUX i v me (omega arith) in64 below l)
answer_packs words h s me (Move.View view) d l c e = absurd (quiet_frame e)

-- packing accepts every frame that a turn answers
pub broadcast_packs : (words : List ℕ) (h : Host) (w : World) (me : ℕ) {g : Host} {f : Frame} {after : List ℕ}
    → turning words h w me ≡ (accepted (broadcast g f), after) → packing f ≡ accepted (word_of f)
broadcast_packs words h w me e =
    let ((r, (n, (t, (g5, _)))), made) = turn_made words h w me e in
    let (_, d, z) = ready_clear (length words) h w (r, (n, (t, tt))) in
    let mine = leb-false w.n me g5 in
    answer_packs words h (thresholds_of w) me (chosen words h (thresholds_of w)) d (omega arith) refl (ap (λ x. x.0) made)
