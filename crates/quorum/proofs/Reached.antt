-- What an accepted world is, and what reaching a threshold tells. Assumes nothing.
use Prim.Native.Nat.{ℕ, ◌+◌, ◌*◌, ◌≤◌, ◌<◌}
use mathlib.Core.Path.{◌≡◌}
use mathlib.Core.Bool.{false}
use native.Mathlib.Omega.{arith}
use lib.Dec.{ltb}
use borrow.Author.Tests.{ltb-false, leb-false}
use Rattle.answer.specs.Answer.{accepted}
use Rattle.answer.proofs.Guards.{clear}
use Rattle.std.proofs.lemmas.Bool.{or_parts}
use Rattle.quorum.specs.World.{echo_at, admit_at, view_at, thresholds_of, bad_hosts, bad_liars, world_guards, checking}
use Rattle.quorum.specs.declared.World.{World}
use Rattle.quorum.specs.declared.Thresholds.{Thresholds}

-- "n hosts, 2 to 32 .. t with n above 3t"
pub record Sized (w : World) : Type 0 where
  pub some : 2 ≤ w.n
  pub most : w.n ≤ 32
  pub big : 3 * w.t < w.n

pub sized : (w : World) → bad_hosts w ≡ false → bad_liars w ≡ false → Sized w
sized w h l =
    let (a, b) = or_parts (ltb w.n 2) (ltb 32 w.n) h in
    record { some = ltb-false _ _ a; most = ltb-false _ _ b; big = leb-false _ _ l }

pub accepted_sized : (w : World) (s : Thresholds) → checking w ≡ accepted s → Sized w
unfolding checking
accepted_sized w s e = let ((h, (l, _)), _) = clear (world_guards w) (thresholds_of w) e in sized w h l

-- an echo has more than t witnesses, an admission more than 2t, a view n−t senders
pub echo_over : (w : World) (c : ℕ) → echo_at w ≤ c → w.t < c
echo_over w c h = omega arith

pub admit_over : (w : World) (c : ℕ) → admit_at w ≤ c → 2 * w.t < c
admit_over w c h = omega arith

pub view_over : (w : World) (c : ℕ) → view_at w ≤ c → w.n ≤ w.t + c
view_over w c h = omega arith
