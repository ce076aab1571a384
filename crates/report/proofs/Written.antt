-- A line that was put at the start of the bytes is what the call promises; and what the host line's guards let pass. Assumes nothing.
use Prim.Native.Nat.{ℕ, ◌≤◌, ◌<◌}
use mathlib.Core.Path.{◌≡◌, refl, sym, ap₂, ◌∙◌}
use mathlib.Core.Bool.{Bool, false, ◌||◌}
use mathlib.Core.List.{List, ◌++◌}
use native.Mathlib.Omega.{arith}
use lib.ListN.{length, take, drop}
use Rattle.std.proofs.lemmas.List.{take-append-drop}
use borrow.Author.Tests.{le-ltb, lt-leb}
use Rattle.answer.specs.Answer.{Answer, accepted, Guard}
use Rattle.answer.proofs.Guards.{Clear, clear, passes}
use Rattle.quorum.specs.World.{thresholds_of, world_guards, checking}
use Rattle.quorum.specs.declared.World.{World}
use Rattle.quorum.specs.declared.Thresholds.{Thresholds}
use Rattle.host.specs.Record.{bad_host}
use Rattle.host.specs.declared.Host.{Host}
use Rattle.report.specs.Lines.{short, host_guards, writing}
use Rattle.report.specs.Parts.{Adds}
use Rattle.report.specs.declared.put.Line.{Line}

-- past its guards a call leaves the line, which began empty, and what lies behind it
pub written : (guards : List Guard) {empty line : Line} {new after : List ℕ} → Clear guards → Adds empty new line → empty.length ≡ 0
    → after ≡ line.out.now → ◌≡◌ {A = Answer ℕ × List ℕ} (accepted line.length, after) (writing empty.out.now guards new)
unfolding writing
written guards {empty} {line} {new} {after} c p start same =
    let before = empty.out.now in
    let n : line.length ≡ length new = omega (arith, p.ends) in
    let whole : line.out.now ≡ take line.length line.out.now ++ drop line.length line.out.now = sym (take-append-drop line.length line.out.now) in
    let bytes : line.out.now ≡ new ++ drop (length new) before = whole ∙ ap₂ ◌++◌ p.front p.back ∙ rw (start, n) refl in
    let leaves : ℕ × List ℕ = (length new, new ++ drop (length new) before) in
    rw (passes guards leaves c, n, same ∙ bytes) refl

-- bytes that are enough and a record in its range are not refused by 13
pub lent_fine : (before : List ℕ) (h : Host) {b : Bool} → 80 ≤ length before → b ≡ bad_host h → b ≡ false → short before || bad_host h ≡ false
lent_fine before h l same fine = rw (le-ltb (length before) 80 l) (sym same ∙ fine)

-- past what the world's check refuses, and 5, the host line's guards are clear
pub host_clear : (before : List ℕ) (me : ℕ) (h : Host) (w : World) {s : Thresholds} → short before || bad_host h ≡ false
    → checking w ≡ accepted s → me < w.n → Clear (host_guards before me h w)
unfolding checking
host_clear before me h w fine e l = let ((n, (t, _)), _) = clear (world_guards w) (thresholds_of w) e in (fine, (n, (t, (lt-leb _ _ l, tt))))
