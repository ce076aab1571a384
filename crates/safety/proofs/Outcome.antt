-- Demand 3 of every state that a vote reaches, with two phases to a round. Assumes nothing.
use Prim.Native.Nat.{ℕ, ◌≤◌}
use mathlib.Core.Path.{◌≡◌, refl}
use mathlib.Core.Bool.{true}
use Rattle.safety.proofs.Votes.{Val, v0, v1, Phase, Slot, stage1, View, Vote, Honest, Made, Equal, not_both}
use Rattle.safety.proofs.Steps.{State, Viewed, Reached, inv, sound, several, says_two, says_one}
use Rattle.safety.proofs.Phases.{phases, Decided, agreement, validity, not_three, equal_two, bits_one}

module _ {C : Vote} {s : State} (x : Reached C (phases C) s) where
  -- no two hosts have decided differently
  pub agree : (i j : ℕ) (v w : Val) → Decided s.hist i v → Decided s.hist j w → w ≡ v
  agree i j v w d e = agreement C s.hist (sound (inv x)) d e

  -- each decision was an honest proposal
  pub valid : (i : ℕ) (v : Val) → Decided s.hist i v → Made C s.hist v
  valid i v d = validity C s.hist (sound (inv x)) i v d

  -- an honest host has said at most two values of an instance
  pub two_said : (i r : ℕ) (q : Slot) → Honest C i → several (s.sent_val i r q) ≤ 2
  two_said i r q g = says_two (inv x) i r q g (not_three C s.hist (sound (inv x)) r q)

  -- and one, if no two honest proposals differ
  pub one_said : Equal C s.hist → (i r : ℕ) (q : Slot) → Honest C i → several (s.sent_val i r q) ≤ 1
  one_said e i r q g = says_one (inv x) i r q g (equal_two C s.hist (sound (inv x)) e r q)

  -- no view of a stage 1 holds both 0 and 1
  pub never_split : (i r : ℕ) (p : Phase) (W : View) → Viewed C s i r (stage1 p) W → W v0 ≡ true → W v1 ≡ true → ⊥
  never_split i r p W u a b =
      let I = inv x in
      not_both v1 (bits_one C s.hist (sound I) (I.adm_in (u.from a).2).1 (I.adm_in (u.from b).2).1 tt tt) refl
