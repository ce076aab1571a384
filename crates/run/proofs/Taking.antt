-- How many bytes a call of `play` takes: no more than there are, and one at least where it stops at a refused event. Assumes nothing.
use Prim.Native.Nat.{ℕ, ◌≤◌, ◌<◌}
use mathlib.Core.Path.{◌≡◌, refl, sym, ap, ◌∙◌}
use mathlib.Core.Bool.{true, false}
use mathlib.Core.List.{List, [], ◌∷◌}
use native.Mathlib.Omega.{arith}
use lib.ListN.{length}
use Rattle.answer.specs.Answer.{Answer, refused, accepted, Guard, ◌when◌, guarded, lent}
use Rattle.answer.proofs.Guards.{not_both}
use Rattle.run.specs.Playing.{pieces, Ending, stopped, course}
use Rattle.run.specs.Calls.{play_guards, left, playing}
use Rattle.run.specs.declared.Run.{Run}
use Rattle.run.proofs.Runs.{course_taken, course_stopped}

-- the two ways of a call on lent memory: its guards refuse it, or they let it pass
by_guards : {A M : Type 0} (P : Answer A × M → Type 0) (before : M) (gs : List Guard) (x : A × M)
    → ((k : ℕ) → P (refused k, before)) → P (accepted x.0, x.1) → P (lent before (guarded gs x))
by_guards P before [] x stops goes = goes
by_guards P before ((k when true) ∷ gs) x stops goes = stops k
by_guards P before ((k when false) ∷ gs) x stops goes = by_guards P before gs x stops goes

module _ (run : Run) (table bytes : List ℕ) where
  by_play : (P : Answer Ending × (Run × ℕ × List ℕ) → Type 0) → ((k : ℕ) → P (refused k, (run, 0, table)))
      → P (accepted (left (course run table (pieces bytes))).0, (left (course run table (pieces bytes))).1) → P (playing run table bytes)
  unfolding playing
  by_play P = by_guards P (run, 0, table) (play_guards run table) (left (course run table (pieces bytes)))

  pub takes_within : {a : Answer Ending} {r : Run} {taken : ℕ} {after : List ℕ} → (a, (r, taken, after)) ≡ playing run table bytes → taken ≤ length bytes
  takes_within e =
      rw (ap (λ x. x.1.1) e) (by_play (λ r. r.1.1 ≤ length bytes) (λ k. omega arith) (course_taken run table bytes))

  pub takes_some : {a : Answer Ending} {r : Run} {taken k : ℕ} {after : List ℕ} → (a, (r, taken, after)) ≡ playing run table bytes
      → a ≡ accepted (stopped k) → 0 < taken
  takes_some {k = k} e s =
      rw (ap (λ x. x.1.1) e)
      (by_play (λ r. r.0 ≡ accepted (stopped k) → 0 < r.1.1) (λ j q. absurd (not_both q refl)) (λ q. course_stopped run table bytes {k = k} (cc)) (sym (ap (λ x. x.0) e) ∙ s))
