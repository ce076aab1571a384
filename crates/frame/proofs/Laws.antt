-- Laws on bits, and what the refusals that do not hold leave of a frame. Assumes nothing.
use Prim.Native.Nat.{ℕ, ◌+◌, ◌*◌, ◌%◌, ◌^◌, ◌≤◌, ◌<◌}
use mathlib.Core.Path.{◌≡◌, ap, ◌∙◌}
use mathlib.Core.Bool.{false, ◌&&◌, ◌||◌}
use native.Mathlib.Nat.{mod-eq_of_lt}
use native.Mathlib.Omega.{arith}
use lib.Bits.{bit_or, or_shifted}
use lib.Dec.{ltb, eqb}
use borrow.Author.Tests.{ltb-false, eqb-false}
use Rattle.std.proofs.lemmas.Bool.{or_parts}
use Rattle.frame.specs.Layout.{Fit}
use Rattle.frame.specs.Frame.{widths, parts, bad_round, bad_value, unnamed, too_large}
use Rattle.frame.specs.declared.Frame.{Frame}

-- `x << k | y`, where no bit is lost and y has k bits
pub shl_or : (x k y : ℕ) → y < 2 ^ k → x * 2 ^ k + y < 65536 → bit_or (x * 2 ^ k % 65536) y ≡ x * 2 ^ k + y
shl_or x k y l h =
    let whole : x * 2 ^ k < 65536 = omega arith in
    ap (λ (p : ℕ). bit_or p y) (mod-eq_of_lt whole) ∙ or_shifted x k y l

-- what the refusals that do not hold tell of a frame: its round, its value, and its kind, phase and stage
pub round_in : (r : ℕ) → bad_round r ≡ false → (1 ≤ r) × (r ≤ 16)
round_in r e =
    let (none, high) = or_parts (eqb r 0) (ltb 16 r) e in
    let some = eqb-false r 0 none in
    omega (arith, ltb-false 16 r high)

pub value_in : (v s : ℕ) → bad_value v s ≡ false → v < 3
value_in v s e = omega (arith, ltb-false 2 v (or_parts (ltb 2 v) (eqb v 2 && eqb s 0) e).0)

pub named_in : (f : Frame) → unnamed f ≡ false → (f.kind < 2) × (1 ≤ f.phase) × (f.phase ≤ 2) × (f.stage < 2)
named_in f u =
    let kind = ltb 1 f.kind in
    let none = eqb f.phase 0 in
    let phase = ltb 2 f.phase in
    let a = or_parts (kind || none || phase) (ltb 1 f.stage) u in
    let b = or_parts (kind || none) phase a.0 in
    let c = or_parts kind none b.0 in
    let some = eqb-false f.phase 0 c.1 in
    omega (arith, ltb-false 1 f.kind c.0, ltb-false 2 f.phase b.1, ltb-false 1 f.stage a.1)

-- a frame that nothing refuses has a phase, and each part fits its field
pub writable : (f : Frame) → bad_round f.round ≡ false → bad_value f.value f.stage ≡ false → unnamed f ≡ false → too_large f ≡ false
    → (1 ≤ f.phase) × Fit widths (parts f)
writable f r v u l =
    omega (arith, round_in f.round r, value_in f.value f.stage v, named_in f u, ltb-false 31 f.sender l)
