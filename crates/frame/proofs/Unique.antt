-- Each promise allows one result. Assumes nothing.
use Prim.Native.Nat.{ℕ}
use mathlib.Core.Path.{◌≡◌}
use Rattle.std.specs.Prelude.{Result}
use Rattle.answer.specs.declared.Refusal.{Refusal}
use Rattle.answer.proofs.Once.{says_once}
use Rattle.frame.specs.Frame.{unpacking, judging, packing, Unpacks, Judges, Packs}
use Rattle.frame.specs.declared.Frame.{Frame}

pub unpacks_once : (w : ℕ) (a b : Result Frame Refusal) → Unpacks w a → Unpacks w b → a ≡ b
unpacks_once w = says_once (unpacking w)

pub judges_once : (f : Frame) (a b : Result Unit Refusal) → Judges f a → Judges f b → a ≡ b
judges_once f = says_once (judging f)

pub packs_once : (f : Frame) (a b : Result ℕ Refusal) → Packs f a → Packs f b → a ≡ b
packs_once f = says_once (packing f)
