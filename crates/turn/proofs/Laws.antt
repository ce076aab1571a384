-- What a mark writes, and what the other 13 leaves room for. Assumes nothing.
use Prim.Native.Nat.{ℕ, ◌*◌, ◌%◌, ◌^◌, ◌≤◌, ◌<◌}
use mathlib.Core.Path.{◌≡◌}
use mathlib.Core.Bool.{Bool, true, false, ◌&&◌}
use native.Mathlib.Omega.{arith}
use lib.Dec.{eqb}
use borrow.Author.Tests.{eqb-false}
use Rattle.std.specs.Prelude.{bit_or}
use Rattle.quorum.specs.Sets.{add}
use Rattle.quorum.proofs.Adding.{or_shl}
use Rattle.host.specs.declared.Host.{Host}

-- `w | 1 << j` in a word of the machine's 32 bits
pub marked : (w j : ℕ) → j < 32 → bit_or w (1 * 2 ^ j % 4294967296) ≡ add w j
marked w j l = or_shl 32 j l w

-- a move that broadcasts, of a record that the other 13 does not refuse, has room for one frame more
pub room : (h : Host) (b : Bool) → h.sent ≤ 224 → b && eqb h.sent 224 ≡ false → b ≡ true → h.sent < 224
room h true l e t = let n = eqb-false h.sent 224 e in omega arith
room h false l e t = let z : ◌≡◌ {A = ℕ} 0 1 = cc in absurd (omega arith)
