-- A host's part of the table, lent to a call and given back. Assumes nothing.
use Prim.Native.Nat.{ℕ, ◌+◌, ◌-◌, ◌*◌}
use mathlib.Core.Path.{◌≡◌, ap, ap₂, ◌∙◌}
use mathlib.Core.Bool.{Bool}
use mathlib.Core.List.{List, ◌++◌}
use native.Mathlib.Omega.{arith}
use lib.ListN.{take}
use borrow.Rule.Slice.PartMut.{mid_of, put_mid, Post-is}
use Rattle.std.specs.Prelude.{Result}
use Rattle.answer.specs.Answer.{Answer, says}
use Rattle.answer.specs.declared.Refusal.{Refusal}
use Rattle.quorum.specs.declared.World.{World}
use Rattle.host.specs.declared.Host.{Host}
use Rattle.delivery.specs.Delivery.{delivering_word}
use Rattle.turn.specs.Applying.{Turn}
use Rattle.file.specs.declared.Event.{Event}
use Rattle.table.specs.Table.{part_of, with_part, on_part, passed, passed_on, said, delivering_at}

module _ (table : List ℕ) (i : ℕ) where
  put_back : (part : List ℕ) → put_mid (448 * i) (448 * i + 448 - 448 * i) table part ≡ with_part table i part
  unfolding with_part
  put_back part = ap (λ (z : List ℕ). take (448 * i) table ++ (part ++ z)) (Post-is (448 * i) (448 * i + 448) table (omega arith))

  -- what is lent is the host's part
  pub part_lent : mid_of (448 * i) (448 * i + 448 - 448 * i) table ≡ part_of table i
  unfolding part_of
  part_lent =
      let k : 448 * i + 448 - 448 * i ≡ 448 = omega arith in
      rw k

  -- what a call makes of the part, the table has
  pub on_part_lem : {A : Type 0} (f : List ℕ → Answer A × List ℕ) (r : Answer A) (part : List ℕ)
      → ◌≡◌ {A = Answer A × List ℕ} (r, part) (f (mid_of (448 * i) (448 * i + 448 - 448 * i) table))
      → ◌≡◌ {A = Answer A × List ℕ} (r, put_mid (448 * i) (448 * i + 448 - 448 * i) table part) (on_part table i (f (part_of table i)))
  on_part_lem {A} f r part e =
      let q : ◌≡◌ {A = Answer A × List ℕ} (r, part) (f (part_of table i)) = rw part_lent at e in
      ap₂ (λ (x : Answer A) (y : List ℕ). (x, y)) (ap (λ (p : Answer A × List ℕ). p.0) q)
      (put_back part ∙ ap (λ (p : Answer A × List ℕ). with_part table i p.1) q)

-- a delivery to host i, once its sender is asked: what it says of the part, the table has
pub delivers_lem : (table : List ℕ) (h sender : Host) (w : World) (e : Event) (r : Result Unit Refusal) (part : List ℕ) (b : Bool)
    → b ≡ said table sender w e.word
    → ◌≡◌ {A = Answer Unit × List ℕ} (says r, part) (delivering_word (mid_of (448 * e.host) (448 * e.host + 448 - 448 * e.host) table) h w e.word b)
    → ◌≡◌ {A = Answer Turn × List ℕ} (passed (says r), put_mid (448 * e.host) (448 * e.host + 448 - 448 * e.host) table part) (delivering_at table h sender w e)
unfolding delivering_at
delivers_lem table h sender w e r part b s p =
    rw (← s) (on_part_lem table e.host (λ words. passed_on (delivering_word words h w e.word b)) (passed (says r)) part (ap passed_on p))
