-- The promise allows one result and one content of the words. Assumes nothing.
use Prim.Native.Nat.{ℕ}
use mathlib.Core.Path.{◌≡◌, refl, ap}
use mathlib.Core.List.{List}
use Rattle.std.specs.Prelude.{Result, Ok, Err}
use Rattle.answer.specs.Answer.{Answer, refused, accepted, says}
use Rattle.answer.specs.declared.Refusal.{Refusal}
use Rattle.answer.proofs.Once.{says_once_lent}
use Rattle.quorum.specs.declared.World.{World}
use Rattle.host.specs.declared.Host.{Host}
use Rattle.turn.specs.Applying.{Turn, idle, quiet, broadcast}
use Rattle.turn.specs.Turning.{turning, turned_says, Turns}
use Rattle.turn.specs.declared.Turned.{Turned}

-- the same answer, with the enum in place of the turn
turned : Answer Turn → Answer Turned
turned (accepted idle) = accepted Turned.Idle
turned (accepted (quiet h)) = accepted (Turned.Quiet h)
turned (accepted (broadcast h f)) = accepted (Turned.Broadcast h f)
turned (refused k) = refused k

says_turned : (a : Result Turned Refusal) → says a ≡ turned (turned_says a)
unfolding turned
says_turned (Ok Turned.Idle) = refl
says_turned (Ok (Turned.Quiet h)) = refl
says_turned (Ok (Turned.Broadcast h f)) = refl
says_turned (Err r) = refl

with_words : (r : Answer Turn × List ℕ) (a : Result Turned Refusal) (x : List ℕ) → ◌≡◌ {A = Answer Turn × List ℕ} (turned_says a, x) r
    → ◌≡◌ {A = Answer Turned × List ℕ} (says a, x) (turned r.0, r.1)
with_words r a x p = rw (says_turned a) (ap (λ (z : Answer Turn × List ℕ). (turned z.0, z.1)) p)

-- one result for each answer, and one content with it
pub one_turned : (r : Answer Turn × List ℕ) (a b : Result Turned Refusal) (x y : List ℕ) → ◌≡◌ {A = Answer Turn × List ℕ} (turned_says a, x) r
    → ◌≡◌ {A = Answer Turn × List ℕ} (turned_says b, y) r → (a ≡ b) × (x ≡ y)
one_turned r a b x y p q = says_once_lent (turned r.0, r.1) a b x y (with_words r a x p) (with_words r b y q)

pub turns_once : (words : List ℕ) (h : Host) (w : World) (me : ℕ) (a b : Result Turned Refusal) (x y : List ℕ)
    → Turns words h w me a x → Turns words h w me b y → (a ≡ b) × (x ≡ y)
turns_once words h w me = one_turned (turning words h w me)
