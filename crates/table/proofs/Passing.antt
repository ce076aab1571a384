-- What the guards of a step tell where they are clear. Assumes nothing.
use Prim.Native.Nat.{ℕ, ◌≤◌, ◌<◌}
use mathlib.Core.Path.{◌≡◌, refl, ap}
use mathlib.Core.Bool.{Bool, false, cond, ◌&&◌, ◌||◌}
use native.Mathlib.Omega.{arith}
use borrow.Author.Tests.{ltb-false, leb-false}
use lib.Dec.{ltb}
use Rattle.std.specs.Prelude.{Result, Ok, Err}
use Rattle.std.specs.Result.{result_unwrap_or}
use Rattle.answer.specs.Answer.{Answer, refused, accepted, says}
use Rattle.answer.specs.declared.Refusal.{Refusal}
use Rattle.answer.proofs.Guards.{clear, onward, past_onward}
use Rattle.std.proofs.lemmas.Bool.{or_parts}
use Rattle.quorum.specs.declared.World.{World}
use Rattle.quorum.specs.World.{world_guards, thresholds_of, checking}
use Rattle.quorum.proofs.Reached.{sized}
use Rattle.host.specs.Record.{bad_host}
use Rattle.host.specs.declared.Host.{Host}
use Rattle.file.specs.Reading.{event_guards, allowing}
use Rattle.file.specs.declared.Event.{Event}
use Rattle.table.specs.Table.{agreed}
use Rattle.table.specs.Stepping.{delivers, step_guards, readying}

-- what is asked of a sender, or no where the question is refused
pub agreed_or : (r : Result Bool Refusal) → result_unwrap_or r false ≡ agreed (says r)
agreed_or (Ok b) = refl
agreed_or (Err k) = refl

-- a table for 32 hosts, and a host that is one of them
pub step_in : (words : ℕ) (h s : Host) (w : World) (e : Event) → ◌≡◌ {A = Answer Unit} (readying words h s w e) (accepted tt)
    → (e.host < 32) × (14336 ≤ words)
unfolding readying
step_in words h s w e q =
    let ((b, (n, (t, (_, (i, _))))), _) = clear (step_guards words h s w e) tt q in
    let (l, _) = or_parts (ltb words 14336 || bad_host h) (delivers e && bad_host s) b in
    let z = sized w n t in
    omega (arith, leb-false w.n e.host i, z.most, ltb-false words 14336 (or_parts (ltb words 14336) (bad_host h) l).0)

-- the gate: 13, then what the world's check answers, then what the event's does
pub readying_is : (words : ℕ) (h s : Host) (w : World) (e : Event)
    → readying words h s w e ≡ cond (ltb words 14336 || bad_host h || (delivers e && bad_host s)) (refused 13) (onward (checking w) (allowing e w))
unfolding readying checking allowing
readying_is words h s w e =
    ap (cond (ltb words 14336 || bad_host h || (delivers e && bad_host s)) (refused 13))
    (past_onward (world_guards w) (event_guards e w) (thresholds_of w) (accepted tt) _ refl)
