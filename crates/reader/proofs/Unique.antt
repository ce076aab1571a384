-- Each promise allows one reader; that `Shows` allows one answer is file's `shows_once`. Assumes nothing.
use Prim.Native.Nat.{ℕ}
use mathlib.Core.Path.{◌≡◌, sym, ◌∙◌}
use mathlib.Core.List.{List}
use denote.Ref.{Bor}
use Rattle.reader.specs.Reader.{Holds, GoesOn}
use Rattle.reader.specs.declared.Reader.{Reader}

pub holds_once : (events : Bor (List ℕ)) (at : ℕ) (a b : Reader) → Holds events at a → Holds events at b → a ≡ b
holds_once events at a b p q = p ∙ sym q

pub goes_on_once : (before a b : Reader) → GoesOn before a → GoesOn before b → a ≡ b
goes_on_once before a b p q = p ∙ sym q
