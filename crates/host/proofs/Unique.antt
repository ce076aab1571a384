-- Each promise allows one result. Assumes nothing.
use Prim.Native.Nat.{ℕ}
use mathlib.Core.Path.{◌≡◌, sym, ◌∙◌}
use mathlib.Core.Bool.{Bool}
use Rattle.std.specs.Prelude.{Result}
use Rattle.answer.specs.declared.Refusal.{Refusal}
use Rattle.answer.proofs.Once.{says_once}
use Rattle.quorum.specs.declared.World.{World}
use Rattle.quorum.specs.declared.Thresholds.{Thresholds}
use Rattle.host.specs.Calls.{readying, Strays, Readies, Numbers}
use Rattle.host.specs.declared.Host.{Host}

pub strays_once : (h : Host) (a b : Bool) → Strays h a → Strays h b → a ≡ b
strays_once h a b p q = p ∙ sym q

pub readies_once : (words : ℕ) (h : Host) (w : World) (a b : Result Thresholds Refusal) → Readies words h w a → Readies words h w b → a ≡ b
readies_once words h w = says_once (readying words h w)

pub numbers_once : (round phase stage a b : ℕ) → Numbers round phase stage a → Numbers round phase stage b → a ≡ b
numbers_once round phase stage a b p q = p ∙ sym q
