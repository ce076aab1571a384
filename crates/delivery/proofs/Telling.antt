-- What the guards that are clear tell of a frame: every field is in its range. Assumes nothing.
use Prim.Native.Nat.{◌≤◌, ◌<◌}
use native.Mathlib.Omega.{arith}
use borrow.Author.Tests.{leb-false}
use Rattle.answer.proofs.Guards.{Clear}
use Rattle.frame.specs.declared.Frame.{Frame}
use Rattle.frame.proofs.Laws.{round_in, value_in, named_in}
use Rattle.quorum.specs.declared.World.{World}
use Rattle.delivery.specs.Recording.{frame_instance, frame_set}
use Rattle.delivery.specs.Delivery.{sender_guards}
use Rattle.delivery.specs.Parts.{Told}

-- a frame that neither 8 nor 9 nor 5 refuses, among at most 32 hosts
pub told : (w : World) (f : Frame) → w.n ≤ 32 → Clear (sender_guards w f) → Told f
told w f n (r, (v, (u, (s, _)))) =
    let (round_low, round_high) = round_in f.round r in
    let (kind, phase_low, phase_high, stage) = named_in f u in
    record {
      kind = kind;
      round_low = round_low;
      round_high = round_high;
      phase_low = phase_low;
      phase_high = phase_high;
      stage = stage;
      value = value_in f.value f.stage v;
      sender = omega (arith, leb-false w.n f.sender s);
    }

-- a frame speaks of one of the 64 instances, and its set is one of the 448 words
pub told_in : (f : Frame) → Told f → (frame_instance f < 64) × (frame_set f < 448)
told_in f t = omega arith
