-- Each promise allows one result. Assumes nothing.
use Prim.Native.Nat.{ℕ}
use mathlib.Core.Path.{◌≡◌, sym, ◌∙◌}
use mathlib.Core.Bool.{Bool}
use Rattle.std.specs.Prelude.{Result}
use Rattle.answer.specs.declared.Refusal.{Refusal}
use Rattle.answer.proofs.Once.{says_once}
use Rattle.quorum.specs.World.{checking, Makes, Checks}
use Rattle.quorum.specs.Sets.{Has}
use Rattle.quorum.specs.declared.World.{World}
use Rattle.quorum.specs.declared.Thresholds.{Thresholds}

pub makes_once : (n t : ℕ) (a b : World) → Makes n t a → Makes n t b → a ≡ b
makes_once n t a b p q = p ∙ sym q

pub has_once : (set j : ℕ) (a b : Bool) → Has set j a → Has set j b → a ≡ b
has_once set j a b p q = p ∙ sym q

pub checks_once : (w : World) (a b : Result Thresholds Refusal) → Checks w a → Checks w b → a ≡ b
checks_once w = says_once (checking w)
