-- The promise allows one result and one content of the table. Assumes nothing.
use Prim.Native.Nat.{ℕ}
use mathlib.Core.Path.{◌≡◌}
use mathlib.Core.List.{List}
use Rattle.std.specs.Prelude.{Result}
use Rattle.answer.specs.declared.Refusal.{Refusal}
use Rattle.quorum.specs.declared.World.{World}
use Rattle.host.specs.declared.Host.{Host}
use Rattle.turn.specs.declared.Turned.{Turned}
use Rattle.turn.proofs.Unique.{one_turned}
use Rattle.file.specs.declared.Event.{Event}
use Rattle.table.specs.Stepping.{stepping, Steps}

pub steps_once : (table : List ℕ) (h s : Host) (w : World) (e : Event) (a b : Result Turned Refusal) (x y : List ℕ)
    → Steps table h s w e a x → Steps table h s w e b y → (a ≡ b) × (x ≡ y)
steps_once table h s w e = one_turned (stepping table h s w e)
