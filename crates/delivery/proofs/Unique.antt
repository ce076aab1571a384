-- Each promise allows one result and one content of the words. Assumes nothing.
use Prim.Native.Nat.{ℕ}
use mathlib.Core.Path.{◌≡◌}
use mathlib.Core.Bool.{Bool}
use mathlib.Core.List.{List}
use Rattle.std.specs.Prelude.{Result}
use Rattle.answer.specs.declared.Refusal.{Refusal}
use Rattle.answer.proofs.Once.{says_once, says_once_lent}
use Rattle.frame.specs.declared.Frame.{Frame}
use Rattle.quorum.specs.declared.World.{World}
use Rattle.host.specs.declared.Host.{Host}
use Rattle.delivery.specs.Delivery.{delivering, delivering_word, asking, Delivers, DeliversWord, Asks}

pub delivers_once : (words : List ℕ) (h : Host) (w : World) (f : Frame) (said : Bool) (a b : Result Unit Refusal) (x y : List ℕ)
    → Delivers words h w f said a x → Delivers words h w f said b y → (a ≡ b) × (x ≡ y)
delivers_once words h w f said = says_once_lent (delivering words h w f said)

pub delivers_word_once : (words : List ℕ) (h : Host) (w : World) (word : ℕ) (said : Bool) (a b : Result Unit Refusal) (x y : List ℕ)
    → DeliversWord words h w word said a x → DeliversWord words h w word said b y → (a ≡ b) × (x ≡ y)
delivers_word_once words h w word said = says_once_lent (delivering_word words h w word said)

pub asks_once : (words : List ℕ) (h : Host) (w : World) (f : Frame) (a b : Result Bool Refusal)
    → Asks words h w f a → Asks words h w f b → a ≡ b
asks_once words h w f = says_once (asking words h w f)
