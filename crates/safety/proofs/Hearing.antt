-- A delivery that is accepted is a step of the vote: what is recorded of an honest sender, it has broadcast, and of each sender one AUX is
-- recorded in an instance. Assumes nothing.
use Prim.Native.Nat.{ℕ, zero, suc, ◌-◌, ◌<◌}
use mathlib.Core.Path.{◌≡◌, refl, sym, ◌∙◌}
use mathlib.Core.Bool.{Bool, true, false, false≢true}
use native.Mathlib.Decide.{ℕ_discrete}
use native.Mathlib.Omega.{arith}
use lib.ListN.{get_or}
use Rattle.answer.specs.Answer.{accepted}
use Rattle.answer.proofs.Guards.{clear}
use Rattle.answer.proofs.Tests.{clash}
use Rattle.frame.specs.Frame.{unpack_guards, unpacking, frame_of, bad_value}
use Rattle.frame.specs.declared.Frame.{Frame}
use Rattle.quorum.specs.Sets.{member}
use Rattle.quorum.specs.declared.World.{World}
use Rattle.host.specs.Words.{AUX, senders, marks, has_sent}
use Rattle.host.specs.declared.Host.{Host}
use Rattle.delivery.specs.Recording.{frame_instance, frame_set}
use Rattle.delivery.specs.Delivery.{delivering}
use Rattle.delivery.specs.Parts.{Told}
use Rattle.delivery.proofs.Changes.{delivery_told, delivery_one_bit, first_aux}
use Rattle.safety.proofs.Votes.{Val, Slot, Vote}
use Rattle.safety.proofs.Reading.{num, val_of, num_val, inst, inst_at, slot_at, Item, val, aux, said_val, said_aux, at, bit, Words, fits, holds, holds_parts, holds_when, fits_low}
use Rattle.safety.proofs.Putting.{Put, Reason}
use Rattle.safety.proofs.Voted.{Voted, voted_put}

-- a word that can be read says what `frame_of` says of it, and 9 does not refuse its value
pub read_as : (word : ℕ) {f : Frame} → unpacking word ≡ accepted f → (f ≡ frame_of word) × (bad_value f.value f.stage ≡ false)
unfolding unpacking
read_as word e = let ((_, (_, (v, _))), s) = clear (unpack_guards word) (frame_of word) e in (s, rw s v)

-- such a value is one of its instance
value_fits : (v p s : ℕ) → v < 3 → bad_value v s ≡ false → fits (slot_at p s) (val_of v) ≡ true
value_fits zero p zero l e = refl
value_fits (suc zero) p zero l e = refl
value_fits (suc (suc zero)) p zero l e = absurd (false≢true (sym e))
value_fits (suc (suc (suc v))) p zero l e = absurd (omega arith)
value_fits v p (suc s) l e = refl

module _ (C : Vote) (proposal : ℕ → Val) (w : World) (same_n : w.n ≡ C.n) (T U : Words) (H : ℕ → Host) (i : ℕ)
    (others : (j : ℕ) → (j ≡ i → ⊥) → U j ≡ T j) (z : Voted C proposal T H)
    (f : Frame) (sound : bad_value f.value f.stage ≡ false) (h : Host) (said : Bool) (e : delivering (T i) h w f said ≡ (accepted tt, U i))
    (spoken : C.honest f.sender ≡ true → has_sent (T f.sender) f.kind (frame_instance f) f.value ≡ true) where
  told : Told f × (f.sender < w.n)
  told = delivery_told (T i) h w f said e

  -- where the frame stands
  abbrev r : ℕ
  r = f.round - 1

  abbrev q : Slot
  q = slot_at f.phase f.stage

  abbrev v : Val
  v = val_of f.value

  here : frame_instance f ≡ inst r q
  here = let (t, _) = told in sym (inst_at f.round f.phase f.stage t.phase_low t.phase_high t.stage)

  value : num v ≡ f.value
  value = let (t, _) = told in num_val f.value t.value

  low : r < 16
  low = let (t, _) = told in omega (arith, t.round_low, t.round_high)

  fit : fits q v ≡ true
  fit = let (t, _) = told in value_fits f.value f.phase f.stage t.value sound

  host : f.sender < C.n
  host = omega (arith, told.1)

  -- at most the sender's bit in the frame's set is new
  put_frame : (x : Item) → frame_set f ≡ at (inst r q) x → f.sender ≡ bit x → Put T U i r q x
  put_frame x s b =
      let (_, set, same) = delivery_one_bit (T i) h w f said e in
      record {
        others = others;
        grows = λ k c m. go set same k c m (ℕ_discrete k (frame_set f)) (ℕ_discrete c f.sender);
        only = λ k c n. same k c (λ (p, o). n (p ∙ s, o ∙ b));
      }
    where
      go : member (get_or (U i) (frame_set f) 0) f.sender ≡ true
          → ((k c : ℕ) → ((k ≡ frame_set f) × (c ≡ f.sender) → ⊥) → member (get_or (U i) k 0) c ≡ member (get_or (T i) k 0) c)
          → (k c : ℕ) → member (get_or (T i) k 0) c ≡ true → Dec (k ≡ frame_set f) → Dec (c ≡ f.sender) → member (get_or (U i) k 0) c ≡ true
      go set same k c m (yes p) (yes o) = rw (p, o) set
      go set same k c m (no p) o = same k c (λ (x, _). p x) ∙ m
      go set same k c m (yes p) (no o) = same k c (λ (_, x). o x) ∙ m

  heard_val : f.kind ≡ 0 → Voted C proposal U H
  unfolding Reason marks
  heard_val k =
      voted_put z {r = r} {q = q} {x = val v f.sender} (put_frame (val v f.sender) (rw (k, here, value) refl) refl)
      (host, λ g. holds_when T f.sender r q (said_val v) low fit (rw (value, ← here) (rw k at (spoken g))))

  -- any AUX of the sender that was recorded in the instance was this one
  only_aux : f.kind ≡ 1 → (o : Val) → holds T i r q (aux o f.sender) ≡ true → o ≡ v
  unfolding senders
  only_aux k o d = go (member (senders (T i) AUX (frame_instance f) f.value) f.sender) refl
    where
      go : (b : Bool) → member (senders (T i) AUX (frame_instance f) f.value) f.sender ≡ b → o ≡ v
      go true m = z.tidy.aux_one i r q f.sender o v d (holds_when T i r q (aux v f.sender) low fit (rw (value, ← here) m))
      go false m =
          let (_, fo, mo) = holds_parts T i r q (aux o f.sender) d in
          let none = first_aux (T i) h w f said k m e (num o) (rw here (fits_low r q o fo)) in
          clash mo (rw here at none)

  heard_aux : f.kind ≡ 1 → Voted C proposal U H
  unfolding Reason marks
  heard_aux k =
      voted_put z {r = r} {q = q} {x = aux v f.sender} (put_frame (aux v f.sender) (rw (k, here, value) refl) refl)
      (host, (λ g. holds_when T f.sender r q (said_aux v) low fit (rw (value, ← here) (rw k at (spoken g)))), only_aux k)

  -- an accepted delivery is a step of the vote
  pub delivery_voted : Voted C proposal U H
  delivery_voted = go f.kind refl told.0.kind
    where
      go : (k : ℕ) → f.kind ≡ k → k < 2 → Voted C proposal U H
      go zero p l = heard_val p
      go (suc zero) p l = heard_aux p
      go (suc (suc k)) p l = absurd (omega arith)
