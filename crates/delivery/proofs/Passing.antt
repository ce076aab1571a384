-- What is left of a call once the first of its guards are asked. Assumes nothing.
use Prim.Native.Nat.{ℕ, ◌≤◌}
use mathlib.Core.Path.{◌≡◌, refl, ap, ◌∙◌}
use mathlib.Core.Bool.{Bool, true, false, cond, not}
use mathlib.Core.List.{List, [], ◌∷◌, ◌++◌}
use lib.ListN.{length}
use borrow.Author.Tests.{ne_eqb}
use Rattle.answer.specs.Answer.{Answer, refused, accepted, Guard, ◌when◌, past, guarded, lent, going_on}
use Rattle.answer.proofs.Guards.{Clear, clear, refuses, lets, stops, goes_on, onward, past_onward}
use Rattle.frame.specs.Frame.{unpacking}
use Rattle.frame.specs.declared.Frame.{Frame}
use Rattle.quorum.specs.World.{thresholds_of}
use Rattle.quorum.specs.declared.World.{World}
use Rattle.quorum.specs.declared.Thresholds.{Thresholds}
use Rattle.host.specs.Record.{lying, broken}
use Rattle.host.specs.Calls.{ready_guards, readying}
use Rattle.host.specs.declared.Host.{Host}
use Rattle.host.proofs.Ranges.{ready_clear}
use Rattle.delivery.specs.Recording.{recording, may_send}
use Rattle.delivery.specs.Delivery.{receiver_guards, sender_guards, hearing_guards, concluded, delivering, after_unpacking, delivering_word, asking}
use Rattle.delivery.specs.Parts.{Told}
use Rattle.delivery.proofs.Telling.{told}

-- what guards alone answer
abbrev pub asked : List Guard → Answer Unit
asked gs = guarded gs tt

lent_parts : {M : Type 0} (words : M) (gs hs : List Guard) (x : Answer (Unit × M)) (r : Answer Unit) → asked gs ≡ r
    → lent words (past (gs ++ hs) x) ≡ going_on words r (lent words (past hs x))
lent_parts words gs hs x (refused k) e = ap (lent words) (stops gs hs tt x e)
lent_parts words gs hs x (accepted u) e = ap (lent words) (goes_on gs hs tt x e)

-- 10, then 11
hears : (words : List ℕ) (h : Host) (b said : Bool) (x : Answer (Unit × List ℕ)) → broken h ≡ b
    → lent words (past (hearing_guards h said) x) ≡ cond b (refused 10, words) (cond (not said) (refused 11, words) (lent words x))
hears words h true said x e = rw e refl
hears words h false true x e = rw e refl
hears words h false false x e = rw e refl

-- the receiver's guards: what `ready` refuses, then 6
pub receiver_is : (words : ℕ) (h : Host) (w : World)
    → asked (receiver_guards words h w) ≡ onward (readying words h w) (cond (lying h) (refused 6) (accepted tt))
unfolding readying
receiver_is words h w = past_onward (ready_guards words h w) ((6 when lying h) ∷ []) (thresholds_of w) (accepted tt) _ refl

module _ (words : List ℕ) (h : Host) (w : World) where
  -- what neither `ready` nor the sender's guards refuse
  means : (f : Frame) → Clear (ready_guards (length words) h w) → asked (sender_guards w f) ≡ accepted tt → Told f × (448 ≤ length words)
  means f c g =
      let (l, _, z) = ready_clear (length words) h w c in
      (told w f z.most (clear (sender_guards w f) tt g).0, l)

  -- a delivery that neither the receiver's guards nor the sender's refuse
  pub delivered_means : (f : Frame) → asked (receiver_guards (length words) h w) ≡ accepted tt → asked (sender_guards w f) ≡ accepted tt
      → Told f × (448 ≤ length words)
  delivered_means f e = let ((r, (n, (t, _))), _) = clear (receiver_guards (length words) h w) tt e in means f (r, (n, (t, tt)))

  -- and a question that neither `ready` nor the sender's guards refuse
  pub asked_means : (f : Frame) {s : Thresholds} → readying (length words) h w ≡ accepted s → asked (sender_guards w f) ≡ accepted tt
      → Told f × (448 ≤ length words)
  unfolding readying
  asked_means f e = means f (clear (ready_guards (length words) h w) (thresholds_of w) e).0

  -- a delivery: what refuses the receiver, then the sender, then 10, 11 and what recording says
  pub delivering_is : (f : Frame) (said : Bool)
      → delivering words h w f said ≡ going_on words (asked (receiver_guards (length words) h w))
      (going_on words (asked (sender_guards w f)) (cond (broken h) (refused 10, words) (cond (not said) (refused 11, words) (lent words (concluded (recording words f))))))
  unfolding delivering
  delivering_is f said =
      let x = concluded (recording words f) in
      lent_parts words (receiver_guards (length words) h w) (sender_guards w f ++ hearing_guards h said) x _ refl
      ∙ ap (going_on words (asked (receiver_guards (length words) h w)))
      (lent_parts words (sender_guards w f) (hearing_guards h said) x _ refl ∙ ap (going_on words (asked (sender_guards w f))) (hears words h _ said x refl))

  -- what 11 asks: what `ready` refuses, then what refuses the sender
  pub asking_is : (f : Frame)
      → asking words h w f ≡ onward (readying (length words) h w) (onward (asked (sender_guards w f)) (accepted (may_send words h f)))
  unfolding asking readying
  asking_is f =
      past_onward (ready_guards (length words) h w) (sender_guards w f) (thresholds_of w) (accepted (may_send words h f)) _ refl
      ∙ ap (onward (guarded (ready_guards (length words) h w) (thresholds_of w))) (past_onward (sender_guards w f) [] tt (accepted (may_send words h f)) _ refl)

  -- what could be read of a packed frame is delivered
  abbrev pub read : Bool → Answer Frame → Answer Unit × List ℕ
  read said (refused k) = (refused k, words)
  read said (accepted f) = delivering words h w f said

  still_stops : (f : Frame) (said : Bool) (r : Answer Unit) → asked (receiver_guards (length words) h w) ≡ r
      → delivering words h w f said ≡ going_on words r (delivering words h w f said)
  still_stops f said (refused k) e = rw (delivering_is f said) (rw e refl)
  still_stops f said (accepted u) e = refl

  unpacked_is : (said : Bool) (u : Answer Frame) (r : Answer Unit) → asked (receiver_guards (length words) h w) ≡ r
      → after_unpacking words h w said u ≡ going_on words r (read said u)
  unpacked_is said (refused j) (refused k) e = ap (lent words) (refuses (receiver_guards (length words) h w) tt (refused j) e)
  unpacked_is said (refused j) (accepted u) e = ap (lent words) (lets (receiver_guards (length words) h w) tt (refused j) e)
  unpacked_is said (accepted f) r e = still_stops f said r e

  -- a packed frame: what refuses the receiver, then what unpacking says
  pub delivering_word_is : (word : ℕ) (said : Bool)
      → delivering_word words h w word said ≡ going_on words (asked (receiver_guards (length words) h w)) (read said (unpacking word))
  unfolding delivering_word
  delivering_word_is word said = unpacked_is said (unpacking word) _ refl

-- for the functions' own proofs: each with what a test of numbers that failed says
pub ruleset receives = (receiver_is, ne_eqb)

pub ruleset delivers = (delivering_is, ne_eqb)

pub ruleset asks = (asking_is, ne_eqb)
