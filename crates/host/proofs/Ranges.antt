-- What the guards that are clear tell of words, record and world. Assumes nothing.
use Prim.Native.Nat.{ℕ, ◌≤◌, ◌<◌}
use mathlib.Core.Path.{◌≡◌, refl}
use mathlib.Core.Bool.{Bool, true, false, ◌&&◌, ◌||◌, not}
use native.Mathlib.Omega.{arith}
use lib.Dec.{ltb, eqb}
use borrow.Author.Tests.{ltb-false, eqb-true, eqb-false, not-false, le-ltb, eq-eqb, ne_eqb}
use Rattle.answer.specs.Answer.{accepted, guarded}
use Rattle.answer.proofs.Guards.{Clear, clear}
use Rattle.std.proofs.lemmas.Bool.{or_parts}
use Rattle.quorum.specs.World.{thresholds_of}
use Rattle.quorum.specs.declared.World.{World}
use Rattle.quorum.specs.declared.Thresholds.{Thresholds}
use Rattle.quorum.proofs.Reached.{Sized, sized}
use Rattle.host.specs.Words.{instance}
use Rattle.host.specs.Record.{bad_place, bad_vote, bad_standing, bad_host, moved, stood, sent_one, Valid}
use Rattle.host.specs.Calls.{ready_guards}
use Rattle.host.specs.declared.Host.{Host}

-- round, phase and stage
in_place : (r p s : ℕ) → eqb r 0 || ltb 16 r || eqb p 0 || ltb 2 p || ltb 1 s ≡ false
    → (1 ≤ r) × (r ≤ 16) × (1 ≤ p) × (p ≤ 2) × (s < 2)
in_place r p s e =
    let a = or_parts (eqb r 0 || ltb 16 r || eqb p 0 || ltb 2 p) (ltb 1 s) e in
    let b = or_parts (eqb r 0 || ltb 16 r || eqb p 0) (ltb 2 p) a.0 in
    let c = or_parts (eqb r 0 || ltb 16 r) (eqb p 0) b.0 in
    let d = or_parts (eqb r 0) (ltb 16 r) c.0 in
    let round = eqb-false r 0 d.0 in
    let phase = eqb-false p 0 c.1 in
    omega (arith, ltb-false 16 r d.1, ltb-false 2 p b.1, ltb-false 1 s a.1)

same_as : (s o e : ℕ) (b : Bool) → eqb s 0 ≡ b → b && not (eqb o e) ≡ false → s ≡ 0 → o ≡ e
same_as s o e true q r z = eqb-true o e (not-false (eqb o e) r)
same_as s o e false q r z = absurd (eqb-false s 0 q z)

-- own value, estimate and decision
in_vote : (s o e d : ℕ) → ltb 2 o || ltb 1 e || ltb 2 d || (eqb s 0 && not (eqb o e)) ≡ false
    → (o < 3) × (e < 2) × (d < 3) × (s ≡ 0 → o ≡ e)
in_vote s o e d q =
    let x = or_parts (ltb 2 o || ltb 1 e || ltb 2 d) (eqb s 0 && not (eqb o e)) q in
    let y = or_parts (ltb 2 o || ltb 1 e) (ltb 2 d) x.0 in
    let z = or_parts (ltb 2 o) (ltb 1 e) y.0 in
    let low : o < 3 = omega (arith, ltb-false 2 o z.0) in
    let bit : e < 2 = omega (arith, ltb-false 1 e z.1) in
    let none : d < 3 = omega (arith, ltb-false 2 d y.1) in
    (low, bit, none, same_as s o e (eqb s 0) refl x.1)

-- a record that 13 does not refuse
pub valid : (h : Host) → bad_host h ≡ false → Valid h
valid h e =
    let (pv, s) = or_parts (bad_place h || bad_vote h) (bad_standing h) e in
    let (p, v) = or_parts (bad_place h) (bad_vote h) pv in
    let (round_low, round_high, phase_low, phase_high, stage) = in_place h.round h.phase h.stage p in
    let (own, est, decision, same) = in_vote h.stage h.own h.est h.decision v in
    let (count, place) = or_parts (ltb 224 h.sent) (ltb 3 h.standing) s in
    record {
      round_low = round_low;
      round_high = round_high;
      phase_low = phase_low;
      phase_high = phase_high;
      stage = stage;
      own = own;
      est = est;
      decision = decision;
      same = same;
      sent = ltb-false 224 h.sent count;
      standing = omega (arith, ltb-false 3 h.standing place);
    }

unlike : (s o e : ℕ) (b : Bool) → eqb s 0 ≡ b → (s ≡ 0 → o ≡ e) → b && not (eqb o e) ≡ false
unlike s o e true q f = rw (eq-eqb o e (f (eqb-true s 0 q))) refl
unlike s o e false q f = refl

-- and such a record is not refused
pub fits : (h : Host) → Valid h → bad_host h ≡ false
fits h d =
    let place : bad_place h ≡ false = simp (ne_eqb h.round 0 (λ z. omega arith), le-ltb 16 h.round d.round_high, ne_eqb h.phase 0 (λ z. omega arith), le-ltb 2 h.phase d.phase_high, le-ltb 1 h.stage (omega arith)) in
    let vote : bad_vote h ≡ false = simp (le-ltb 2 h.own (omega arith), le-ltb 1 h.est (omega arith), le-ltb 2 h.decision (omega arith), unlike h.stage h.own h.est (eqb h.stage 0) refl d.same) in
    let standing : bad_standing h ≡ false = simp (le-ltb 224 h.sent d.sent, le-ltb 3 h.standing (omega arith)) in
    rw (place, vote, standing) refl

-- a record that is written to is in range where what is written is
pub moved_valid : (h : Host) (round phase stage own est decision : ℕ) → Valid h
    → (1 ≤ round) × (round ≤ 16) × (1 ≤ phase) × (phase ≤ 2) × (stage < 2) × (own < 3) × (est < 2) × (decision < 3)
    → (stage ≡ 0 → own ≡ est) → Valid (moved h round phase stage own est decision)
moved_valid h round phase stage own est decision d (r, s, p, q, t, o, e, c) same =
    record {
      round_low = r;
      round_high = s;
      phase_low = p;
      phase_high = q;
      stage = t;
      own = o;
      est = e;
      decision = c;
      same = same;
      sent = d.sent;
      standing = d.standing;
    }

pub stood_valid : (h : Host) (standing : ℕ) → Valid h → standing < 4 → Valid (stood h standing)
stood_valid h standing d l =
    record {
      round_low = d.round_low;
      round_high = d.round_high;
      phase_low = d.phase_low;
      phase_high = d.phase_high;
      stage = d.stage;
      own = d.own;
      est = d.est;
      decision = d.decision;
      same = d.same;
      sent = d.sent;
      standing = l;
    }

pub sent_valid : (h : Host) → Valid h → h.sent < 224 → Valid (sent_one h)
sent_valid h d l =
    record {
      round_low = d.round_low;
      round_high = d.round_high;
      phase_low = d.phase_low;
      phase_high = d.phase_high;
      stage = d.stage;
      own = d.own;
      est = d.est;
      decision = d.decision;
      same = d.same;
      sent = omega arith;
      standing = d.standing;
    }

-- where a record stands is one of the 64 instances
pub in_64 : (h : Host) → Valid h → instance h.round h.phase h.stage < 64
in_64 h p = omega arith

-- the guards of every call, clear: enough words, a record in range, a world
pub ready_clear : (words : ℕ) (h : Host) (w : World) → Clear (ready_guards words h w) → (448 ≤ words) × Valid h × Sized w
ready_clear words h w (r, (n, (t, _))) =
    let (l, b) = or_parts (ltb words 448) (bad_host h) r in
    (ltb-false words 448 l, valid h b, sized w n t)

-- and past them a call has the world's thresholds
pub ready_means : (words : ℕ) (h : Host) (w : World) {s : Thresholds} → guarded (ready_guards words h w) (thresholds_of w) ≡ accepted s
    → (448 ≤ words) × Valid h × Sized w × (s ≡ thresholds_of w)
ready_means words h w e =
    let (c, same) = clear (ready_guards words h w) (thresholds_of w) e in
    let (l, v, z) = ready_clear words h w c in
    (l, v, z, same)
