-- Each promise allows one answer and one content of the bytes. Assumes nothing.
use Prim.Native.Nat.{ℕ}
use mathlib.Core.Path.{◌≡◌}
use mathlib.Core.List.{List}
use Rattle.std.specs.Prelude.{Result}
use Rattle.answer.specs.declared.Refusal.{Refusal}
use Rattle.answer.proofs.Once.{says_once_lent}
use Rattle.quorum.specs.declared.World.{World}
use Rattle.host.specs.declared.Host.{Host}
use Rattle.report.specs.Lines.{
  refusal_line,
  event_line,
  host_line,
  totals_line,
  room_guards,
  host_guards,
  writing,
  WritesRefusal,
  WritesEvent,
  WritesHost,
  WritesTotals,
}

pub writes_refusal_once : (before : List ℕ) (number : ℕ) (a b : Result ℕ Refusal) (x y : List ℕ)
    → WritesRefusal before number a x → WritesRefusal before number b y → (a ≡ b) × (x ≡ y)
writes_refusal_once before number = says_once_lent (writing before (room_guards before) (refusal_line number))

pub writes_event_once : (before : List ℕ) (event number : ℕ) (a b : Result ℕ Refusal) (x y : List ℕ)
    → WritesEvent before event number a x → WritesEvent before event number b y → (a ≡ b) × (x ≡ y)
writes_event_once before event number = says_once_lent (writing before (room_guards before) (event_line event number))

pub writes_host_once : (before : List ℕ) (me : ℕ) (h : Host) (w : World) (a b : Result ℕ Refusal) (x y : List ℕ)
    → WritesHost before me h w a x → WritesHost before me h w b y → (a ≡ b) × (x ≡ y)
writes_host_once before me h w = says_once_lent (writing before (host_guards before me h w) (host_line me h))

pub writes_totals_once : (before : List ℕ) (events refusals : ℕ) (a b : Result ℕ Refusal) (x y : List ℕ)
    → WritesTotals before events refusals a x → WritesTotals before events refusals b y → (a ≡ b) × (x ≡ y)
writes_totals_once before events refusals = says_once_lent (writing before (room_guards before) (totals_line events refusals))
