-- One bit more in the words of one host is a step of the vote, where it has the reason that its item asks for. Assumes nothing.
use Prim.Native.Nat.{ℕ, ◌*◌, ◌<◌}
use mathlib.Core.Path.{◌≡◌, sym, ◌∙◌}
use mathlib.Core.Bool.{true}
use mathlib.Core.Option.{some}
use mathlib.Core.Logic.{◌⊎◌, inl, inr, ⊎_elim}
use native.Mathlib.Decide.{ℕ_discrete}
use lib.ListN.{get_or}
use Rattle.quorum.specs.Count.{count}
use Rattle.quorum.specs.Sets.{member}
use Rattle.safety.proofs.Votes.{Val, Slot, Vote, History, Rule}
use Rattle.safety.proofs.Steps.{Step}
use Rattle.safety.proofs.Reading.{inst, Item, val, aux, said_val, admits, said_aux, begun, at, bit, place_one, Words, means, holds, holds_parts, holds_when, lowest_has, lowest_is, says}

-- ---- The words of a run

-- senders are hosts; of each sender one AUX is held in an instance, and a host has sent one
pub record Tidy (C : Vote) (T : Words) : Type 0 where
  pub val_low : (i r : ℕ) (q : Slot) (v : Val) (j : ℕ) → holds T i r q (val v j) ≡ true → j < C.n
  pub aux_low : (i r : ℕ) (q : Slot) (v : Val) (j : ℕ) → holds T i r q (aux v j) ≡ true → j < C.n
  pub aux_one : (i r : ℕ) (q : Slot) (j : ℕ) (v w : Val) → holds T i r q (aux v j) ≡ true → holds T i r q (aux w j) ≡ true → v ≡ w
  pub said_one : (i r : ℕ) (q : Slot) (v w : Val) → holds T i r q (said_aux v) ≡ true → holds T i r q (said_aux w) ≡ true → v ≡ w

-- so the AUX that is held, and the one that was sent, is the one whose bit is set
module _ (C : Vote) (D : History) (T : Words) (Z : Tidy C T) where
  pub aux_is : (i r : ℕ) (q : Slot) (j : ℕ) (v : Val) → holds T i r q (aux v j) ≡ true → (says T D).aux i r q j ≡ some v
  unfolding says
  aux_is i r q j v h = lowest_is (λ v. holds T i r q (aux v j)) v (Z.aux_one i r q j) h

  said_is : (i r : ℕ) (q : Slot) (v : Val) → holds T i r q (said_aux v) ≡ true → (says T D).sent_aux i r q ≡ some v
  unfolding says
  said_is i r q v h = lowest_is (λ v. holds T i r q (said_aux v)) v (Z.said_one i r q) h

-- ---- One bit more

-- U is T with at most the bit of the item x more, at host i in the instance at slot q of round r
pub record Put (T U : Words) (i r : ℕ) (q : Slot) (x : Item) : Type 0 where
  pub others : (j : ℕ) → (j ≡ i → ⊥) → U j ≡ T j
  pub grows : (k b : ℕ) → member (get_or (T i) k 0) b ≡ true → member (get_or (U i) k 0) b ≡ true
  pub only : (k b : ℕ) → ((k ≡ at (inst r q) x) × (b ≡ bit x) → ⊥) → member (get_or (U i) k 0) b ≡ member (get_or (T i) k 0) b

-- the item y of the instance at slot c of round b at host a is the one that was put
abbrev Same : ℕ → ℕ → Slot → Item → ℕ → ℕ → Slot → Item → Type 0
Same a b c y i r q x = (a ≡ i) × (b ≡ r) × (c ≡ q) × (y ≡ x)

module _ {T U : Words} {i r : ℕ} {q : Slot} {x : Item} (P : Put T U i r q x) where
  -- what held holds
  put_keep : (a b : ℕ) (c : Slot) (y : Item) → holds T a b c y ≡ true → holds U a b c y ≡ true
  put_keep a b c y h = let (l, f, m) = holds_parts T a b c y h in holds_when U a b c y l f (go (ℕ_discrete a i) m)
    where
      go : Dec (a ≡ i) → member (get_or (T a) (at (inst b c) y) 0) (bit y) ≡ true → member (get_or (U a) (at (inst b c) y) 0) (bit y) ≡ true
      go (yes e) m = rw e (P.grows (at (inst b c) y) (bit y) (rw e at m))
      go (no d) m = rw (P.others a d) m

  -- what holds now held, or is what was put
  put_new : (a b : ℕ) (c : Slot) (y : Item) → holds U a b c y ≡ true → (holds T a b c y ≡ true) ⊎ Same a b c y i r q x
  put_new a b c y h =
      let (l, f, m) = holds_parts U a b c y h in
      go l f (ℕ_discrete a i) (ℕ_discrete (at (inst b c) y) (at (inst r q) x)) (ℕ_discrete (bit y) (bit x)) m
    where
      go : b < 16 → means c y ≡ true → Dec (a ≡ i) → Dec (at (inst b c) y ≡ at (inst r q) x) → Dec (bit y ≡ bit x)
          → member (get_or (U a) (at (inst b c) y) 0) (bit y) ≡ true → (holds T a b c y ≡ true) ⊎ Same a b c y i r q x
      go l f (no d) k n m = inl (holds_when T a b c y l f (rw (P.others a d) at m))
      go l f (yes e) (yes k) (yes n) m = let (s, t, u) = place_one r b q c x y k n in inr (e, s, t, u)
      go l f (yes e) (no k) n m = inl (holds_when T a b c y l f (rw e (sym (P.only _ _ (λ (p, _). k p)) ∙ rw e at m)))
      go l f (yes e) (yes k) (no n) m = inl (holds_when T a b c y l f (rw e (sym (P.only _ _ (λ (_, p). n p)) ∙ rw e at m)))

-- ---- Reasons

-- the reason for which the item may be put: a frame of an honest sender was said; a VAL is broadcast of a value with which the host enters, or
-- that more than t hosts sent it; a value is admitted that more than 2t sent it; an AUX is the host's first
unfoldable pub Reason : Vote → Rule → History → Words → ℕ → ℕ → Slot → Item → Type 0
Reason C R D T i r q (val v j) = (j < C.n) × (C.honest j ≡ true → holds T j r q (said_val v) ≡ true)
Reason C R D T i r q (aux v j) =
    (j < C.n) × (C.honest j ≡ true → holds T j r q (said_aux v) ≡ true) × ((w : Val) → holds T i r q (aux w j) ≡ true → w ≡ v)
Reason C R D T i r q (said_val v) = R.Enters D i r q v ⊎ (C.t < count C.n (λ j. holds T i r q (val v j)))
Reason C R D T i r q (admits v) = 2 * C.t < count C.n (λ j. holds T i r q (val v j))
Reason C R D T i r q (said_aux v) = (w : Val) → holds T i r q (said_aux w) ≡ true → w ≡ v
Reason C R D T i r q begun = Unit

module _ (C : Vote) (R : Rule) (D : History) {T U : Words} {i r : ℕ} {q : Slot} {x : Item} (Z : Tidy C T) (P : Put T U i r q x) (why : Reason C R D T i r q x) where
  -- the reason of the item that was put
  reason : (a b : ℕ) (c : Slot) (y : Item) → Same a b c y i r q x → Reason C R D T a b c y
  reason a b c y (e, f, g, h) = rw (e, f, g, h) why

  -- two AUX of one sender after the step are one
  two_aux : (a b : ℕ) (c : Slot) (j : ℕ) (v w : Val) → (holds T a b c (aux v j) ≡ true) ⊎ Same a b c (aux v j) i r q x
      → (holds T a b c (aux w j) ≡ true) ⊎ Same a b c (aux w j) i r q x → v ≡ w
  unfolding Reason
  two_aux a b c j v w (inl h) (inl k) = Z.aux_one a b c j v w h k
  two_aux a b c j v w (inl h) (inr s) = (reason a b c (aux w j) s).2 v h
  two_aux a b c j v w (inr s) (inl k) = sym ((reason a b c (aux v j) s).2 w k)
  two_aux a b c j v w (inr (_, _, _, e)) (inr (_, _, _, f)) = let z : aux v j ≡ aux w j = e ∙ sym f in cc

  two_said : (a b : ℕ) (c : Slot) (v w : Val) → (holds T a b c (said_aux v) ≡ true) ⊎ Same a b c (said_aux v) i r q x
      → (holds T a b c (said_aux w) ≡ true) ⊎ Same a b c (said_aux w) i r q x → v ≡ w
  unfolding Reason
  two_said a b c v w (inl h) (inl k) = Z.said_one a b c v w h k
  two_said a b c v w (inl h) (inr s) = reason a b c (said_aux w) s v h
  two_said a b c v w (inr s) (inl k) = sym (reason a b c (said_aux v) s w k)
  two_said a b c v w (inr (_, _, _, e)) (inr (_, _, _, f)) = let z : said_aux v ≡ said_aux w = e ∙ sym f in cc

  pub put_tidy : Tidy C U
  unfolding Reason
  put_tidy = record {
    val_low = λ a b c v j h. ⊎_elim (Z.val_low a b c v j) (λ s. (reason a b c (val v j) s).0) (put_new P a b c (val v j) h);
    aux_low = λ a b c v j h. ⊎_elim (Z.aux_low a b c v j) (λ s. (reason a b c (aux v j) s).0) (put_new P a b c (aux v j) h);
    aux_one = λ a b c j v w h k. two_aux a b c j v w (put_new P a b c (aux v j) h) (put_new P a b c (aux w j) k);
    said_one = λ a b c v w h k. two_said a b c v w (put_new P a b c (said_aux v) h) (put_new P a b c (said_aux w) k);
  }

  pub put_step : Step C R (says T D) (says T D) (says U D)
  unfolding says Reason
  put_step = record {
    keep_sent_val = λ {i = a} {r = b} {q = c} {v} h. put_keep P a b c (said_val v) h;
    keep_sent_aux = λ {i = a} {r = b} {q = c} {v} h.
        said_is C D U put_tidy a b c v (put_keep P a b c (said_aux v) (lowest_has (λ v. holds T a b c (said_aux v)) v h));
    keep_hist = λ _ _ d. d;
    new_val = λ {i = a} {r = b} {q = c} {v} {j} h. ⊎_elim inl (λ s. inr (reason a b c (val v j) s).1) (put_new P a b c (val v j) h);
    new_aux = λ {i = a} {r = b} {q = c} {j} {v} h.
        ⊎_elim (λ k. inl (aux_is C D T Z a b c j v k)) (λ s. inr (λ g. said_is C D T Z j b c v ((reason a b c (aux v j) s).1 g)))
        (put_new P a b c (aux v j) (lowest_has (λ v. holds U a b c (aux v j)) v h));
    new_sent_val = λ {i = a} {r = b} {q = c} {v} _ h. ⊎_elim inl (λ s. inr (reason a b c (said_val v) s)) (put_new P a b c (said_val v) h);
    new_adm = λ {i = a} {r = b} {q = c} {v} h. ⊎_elim inl (λ s. inr (reason a b c (admits v) s)) (put_new P a b c (admits v) h);
    new_saw = inl;
  }
