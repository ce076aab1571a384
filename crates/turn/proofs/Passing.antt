-- What is left of a turn once its first guards are known to stop it, or not to. Assumes nothing.
use Prim.Native.Nat.{ℕ, ◌≤◌}
use mathlib.Core.Path.{◌≡◌, sym, ap}
use mathlib.Core.List.{List}
use lib.ListN.{length}
use Rattle.answer.specs.Answer.{Answer, refused, accepted, lent}
use Rattle.answer.proofs.Guards.{stops, goes_on}
use Rattle.quorum.specs.World.{thresholds_of}
use Rattle.quorum.specs.declared.World.{World}
use Rattle.quorum.specs.declared.Thresholds.{Thresholds}
use Rattle.host.specs.Calls.{ready_guards, readying}
use Rattle.host.specs.Record.{Valid}
use Rattle.host.specs.declared.Host.{Host}
use Rattle.host.proofs.Ranges.{ready_means}
use Rattle.turn.specs.Applying.{Turn}
use Rattle.turn.specs.Turning.{own_guards, made, turning, taking}

-- a host that is ready has words enough and a record in range, in a world of no more hosts than a set has bits
pub ready_takes : (words : List ℕ) (h : Host) (w : World) {s : Thresholds} → accepted s ≡ readying (length words) h w
    → Valid h × (w.n ≤ 32) × (448 ≤ length words)
unfolding readying
ready_takes words h w e =
    let (l, v, z, _) = ready_means (length words) h w (sym e) in
    (v, z.most, l)

module _ (words : List ℕ) (h : Host) (w : World) (me : ℕ) where
  pub turn_stops : {k : ℕ} → refused k ≡ readying (length words) h w
      → ◌≡◌ {A = Answer Turn × List ℕ} (refused k, words) (turning words h w me)
  unfolding readying turning
  turn_stops e =
      sym (ap (lent words) (stops (ready_guards (length words) h w) (own_guards words h (thresholds_of w) w.n me) (thresholds_of w)
      (accepted (made words h (thresholds_of w) me)) (sym e)))

  pub takes : (s : Thresholds) → accepted s ≡ readying (length words) h w → taking words h s w.n me ≡ turning words h w me
  unfolding readying turning taking
  takes s e =
      let (_, _, _, q) = ready_means (length words) h w (sym e) in
      rw q (sym (ap (lent words) (goes_on (ready_guards (length words) h w) (own_guards words h (thresholds_of w) w.n me) (thresholds_of w)
      (accepted (made words h (thresholds_of w) me)) (sym e))))
