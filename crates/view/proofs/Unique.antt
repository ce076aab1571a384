-- The promise allows one answer. Assumes nothing.
use Prim.Native.Nat.{ℕ}
use mathlib.Core.Path.{◌≡◌, sym, ◌∙◌}
use Rattle.host.specs.declared.Host.{Host}
use Rattle.view.specs.View.{Views}

pub views_once : (h : Host) (view : ℕ) (a b : Host) → Views h view a → Views h view b → a ≡ b
views_once h view a b p q = p ∙ sym q
