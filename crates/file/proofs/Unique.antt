-- Each promise allows one result. Assumes nothing.
use Prim.Native.Nat.{ℕ}
use mathlib.Core.Path.{◌≡◌, refl, sym, ap, ◌∙◌}
use mathlib.Core.List.{List}
use Rattle.std.specs.Prelude.{Option, Some, None, Result}
use Rattle.answer.specs.Answer.{Answer, refused, says}
use Rattle.answer.specs.declared.Refusal.{Refusal}
use Rattle.answer.proofs.Once.{says_once}
use Rattle.quorum.specs.declared.World.{World}
use Rattle.host.specs.declared.Host.{Host}
use Rattle.file.specs.Reading.{Sight, nothing, something, heading, enrolling, event_at, allowing, seen_says, Heads, Enrols, Shows, Allows}
use Rattle.file.specs.declared.Event.{Event}

pub heads_once : (bytes : List ℕ) (a b : Result World Refusal) → Heads bytes a → Heads bytes b → a ≡ b
heads_once bytes = says_once (heading bytes)

pub enrols_once : (bytes : List ℕ) (at : ℕ) (a b : Result Host Refusal) → Enrols bytes at a → Enrols bytes at b → a ≡ b
enrols_once bytes at = says_once (enrolling bytes at)

-- what an event's sight says of the event
answer : Sight → Answer Event
answer (something r) = r
answer nothing = refused 0

-- one result, or none, for each sight
seen_once : (s : Sight) (a b : Option (Result Event Refusal)) → seen_says a ≡ s → seen_says b ≡ s → a ≡ b
unfolding answer
seen_once s None None p q = refl
seen_once s None (Some b) p q = cc
seen_once s (Some a) None p q = cc
seen_once s (Some a) (Some b) p q = ap Some (says_once (says b) a b (ap answer (p ∙ sym q)) refl)

pub shows_once : (bytes : List ℕ) (at : ℕ) (a b : Option (Result Event Refusal)) → Shows bytes at a → Shows bytes at b → a ≡ b
shows_once bytes at = seen_once (event_at bytes at)

pub allows_once : (e : Event) (w : World) (a b : Result Unit Refusal) → Allows e w a → Allows e w b → a ≡ b
allows_once e w = says_once (allowing e w)
