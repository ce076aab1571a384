-- What a delivery changes: at most one bit of one word, and nothing where it refuses or repeats; what it tells where it is accepted, and what
-- 11 tells of an honest sender. Assumes nothing.
use Prim.Native.Nat.{ℕ, ◌≤◌, ◌<◌}
use mathlib.Core.Path.{◌≡◌, refl, sym, ap, ◌∙◌}
use mathlib.Core.Bool.{Bool, true, false, cond}
use mathlib.Core.List.{List, ◌++◌}
use native.Mathlib.Omega.{arith}
use lib.ListN.{length, get_or}
use borrow.Author.Tests.{leb-false, ne_eqb, not-false}
use Rattle.answer.specs.Answer.{Answer, refused, accepted, past}
use Rattle.answer.proofs.Guards.{not_both, past_clear, clear, leaves, lent_accepted, past_leaves}
use Rattle.frame.specs.Frame.{unpacking}
use Rattle.frame.specs.declared.Frame.{Frame}
use Rattle.quorum.specs.Sets.{member}
use Rattle.quorum.specs.declared.World.{World}
use Rattle.quorum.proofs.Adding.{added}
use Rattle.host.specs.Words.{values, senders, has_sent, put}
use Rattle.host.specs.Record.{lying}
use Rattle.host.specs.Calls.{ready_guards}
use Rattle.host.specs.declared.Host.{Host}
use Rattle.std.specs.Prelude.{Option, Some, None}
use Rattle.host.proofs.Firsts.{first_nowhere}
use Rattle.host.proofs.Puts.{put_length, put_same, put_others}
use Rattle.host.proofs.Ranges.{ready_clear}
use Rattle.delivery.specs.Recording.{Repeat, frame_instance, frame_set, held_aux, held_from, record_over, recording, may_send}
use Rattle.delivery.specs.Delivery.{receiver_guards, sender_guards, deliver_guards, concluded, delivering, after_unpacking, delivering_word, asking}
use Rattle.delivery.specs.Parts.{Told}
use Rattle.delivery.proofs.Telling.{told, told_in}

-- ---- Recording

left_is : {A M : Type 0} {a b : A} {before after : M} → ◌≡◌ {A = Answer (A × M)} (accepted (a, before)) (accepted (b, after)) → before ≡ after
left_is {A} {M} {a} {b} {before} {after} e = let z : ◌≡◌ {A = A × M} (a, before) (b, after) = cc in ap (λ x. x.1) z

record_go : (P : List ℕ → Type 0) (words after : List ℕ) (f : Frame) (b m : Bool) (p q : Option ℕ) → m ≡ b → q ≡ p
    → (m ≡ true → P words) → (q ≡ None → P (put words (frame_set f) f.sender))
    → concluded (cond b (Repeat, words) (record_over words f p)) ≡ accepted (tt, after) → P after
record_go P words after f true m p q eb ep same new e = rw (sym (left_is e)) (same eb)
record_go P words after f false m (Some k) q eb ep same new e = absurd (not_both e refl)
record_go P words after f false m None q eb ep same new e = rw (sym (left_is e)) (new ep)

-- the two cases of an accepted recording: the sender is in the set already, or nothing stands in the way and it joins it
by_record : (P : List ℕ → Type 0) (words after : List ℕ) (f : Frame)
    → (member (senders words f.kind (frame_instance f) f.value) f.sender ≡ true → P words)
    → (held_from words f (frame_instance f) ≡ None → P (put words (frame_set f) f.sender))
    → concluded (recording words f) ≡ accepted (tt, after) → P after
unfolding recording
by_record P words after f =
    record_go P words after f (member (senders words f.kind (frame_instance f) f.value) f.sender) _
    (held_from words f (frame_instance f)) _ refl refl

-- ---- Delivery

-- a refused delivery leaves the words
pub delivery_refused : (words : List ℕ) (h : Host) (w : World) (f : Frame) (said : Bool) {k : ℕ} {after : List ℕ}
    → delivering words h w f said ≡ (refused k, after) → after ≡ words
unfolding delivering
delivery_refused words h w f said e = leaves words _ (past (deliver_guards words h w f said) (concluded (recording words f))) e

unread_refused : (words : List ℕ) (h : Host) (w : World) (said : Bool) (u : Answer Frame) {k : ℕ} {after : List ℕ}
    → after_unpacking words h w said u ≡ (refused k, after) → after ≡ words
unread_refused words h w said (refused j) e = leaves words _ (past (receiver_guards (length words) h w) (refused j)) e
unread_refused words h w said (accepted f) e = delivery_refused words h w f said e

-- so does the refused delivery of a packed frame
pub word_refused : (words : List ℕ) (h : Host) (w : World) (word : ℕ) (said : Bool) {k : ℕ} {after : List ℕ}
    → delivering_word words h w word said ≡ (refused k, after) → after ≡ words
unfolding delivering_word
word_refused words h w word said e = unread_refused words h w said (unpacking word) e

read_delivered : (words : List ℕ) (h : Host) (w : World) (word : ℕ) (said : Bool) (u : Answer Frame) {after : List ℕ} → unpacking word ≡ u
    → after_unpacking words h w said u ≡ (accepted tt, after)
    → (f : Frame) × (unpacking word ≡ accepted f) × (delivering words h w f said ≡ (accepted tt, after))
read_delivered words h w word said (refused k) {after} q e =
    let gs = receiver_guards (length words) h w in
    absurd (not_both (past_clear gs (refused k) (lent_accepted words after (past gs (refused k)) e)).1 refl)
read_delivered words h w word said (accepted f) q e = (f, q, e)

-- a packed frame that is delivered could be read, and was delivered as what it says
pub word_delivered : (words : List ℕ) (h : Host) (w : World) (word : ℕ) (said : Bool) {after : List ℕ}
    → delivering_word words h w word said ≡ (accepted tt, after)
    → (f : Frame) × (unpacking word ≡ accepted f) × (delivering words h w f said ≡ (accepted tt, after))
unfolding delivering_word
word_delivered words h w word said e = read_delivered words h w word said (unpacking word) refl e

-- an accepted delivery: there are all words, the frame is in range, its sender is a host and said it, and it was recorded
passed : (words after : List ℕ) (h : Host) (w : World) (f : Frame) (said : Bool) → delivering words h w f said ≡ (accepted tt, after)
    → (448 ≤ length words) × (Told f × (f.sender < w.n)) × (said ≡ true) × (concluded (recording words f) ≡ accepted (tt, after))
unfolding delivering
passed words after h w f said e =
    let r = lent_accepted words after (past (deliver_guards words h w f said) (concluded (recording words f))) e in
    let ((g13, (g2, (g3, (g6, (g8, (g9, (g5, (gs, (g10, (g11, _)))))))))), c) = past_clear (deliver_guards words h w f said) _ r in
    let (all, _, z) = ready_clear (length words) h w (g13, (g2, (g3, tt))) in
    (all, (told w f z.most (g8, (g9, (g5, (gs, tt)))), leb-false w.n f.sender gs), not-false said g11, c)

-- a delivery that is accepted was of a frame in range, from a host of this world
pub delivery_told : (words : List ℕ) (h : Host) (w : World) (f : Frame) (said : Bool) {after : List ℕ}
    → delivering words h w f said ≡ (accepted tt, after) → Told f × (f.sender < w.n)
delivery_told words h w f said e = (passed words _ h w f said e).1

-- a delivery that is accepted was of a frame that its sender could have sent
pub delivery_said : (words : List ℕ) (h : Host) (w : World) (f : Frame) (said : Bool) {after : List ℕ}
    → delivering words h w f said ≡ (accepted tt, after) → said ≡ true
delivery_said words h w f said e = (passed words _ h w f said e).2

-- one bit, and no other, may differ: bit j of word `at`, which is set
One : List ℕ → ℕ → ℕ → List ℕ → Type 0
One words at j after =
    (length after ≡ length words) × (member (get_or after at 0) j ≡ true)
    × ((k i : ℕ) → ((k ≡ at) × (i ≡ j) → ⊥) → member (get_or after k 0) i ≡ member (get_or words k 0) i)

-- an accepted delivery changes at most one bit of one word: the sender is in the frame's set, and all else is as it was
pub delivery_one_bit : (words : List ℕ) (h : Host) (w : World) (f : Frame) (said : Bool) {after : List ℕ}
    → delivering words h w f said ≡ (accepted tt, after)
    → (length after ≡ length words) × (member (get_or after (frame_set f) 0) f.sender ≡ true)
    × ((at j : ℕ) → ((at ≡ frame_set f) × (j ≡ f.sender) → ⊥) → member (get_or after at 0) j ≡ member (get_or words at 0) j)
unfolding One senders
delivery_one_bit words h w f said {after} e =
    let (all, (t, _), s, c) = passed words after h w f said e in
    let here : frame_set f < length words = omega (arith, told_in f t) in
    by_record (One words (frame_set f) f.sender) words after f
    (λ m. (refl, m, λ k i n. refl))
    (λ p. (
      put_length words (frame_set f) f.sender,
      rw (put_same words (frame_set f) f.sender here) (added _ f.sender),
      put_others words (frame_set f) f.sender,
    ))
    c

-- a frame that is recorded already changes nothing: one sender's repeated VAL is no second witness
pub repeat_leaves : (words : List ℕ) (h : Host) (w : World) (f : Frame) (said : Bool) {a : Answer Unit} {after : List ℕ}
    → member (senders words f.kind (frame_instance f) f.value) f.sender ≡ true
    → delivering words h w f said ≡ (a, after) → after ≡ words
unfolding delivering recording
repeat_leaves words h w f said m e = sym (ap (λ x. x.1) e) ∙ rw m (past_leaves words (deliver_guards words h w f said) tt)

-- ---- First AUX

-- "for each sender, its first AUX": where an AUX is recorded anew, no other AUX of its sender was recorded in that instance
pub first_aux : (words : List ℕ) (h : Host) (w : World) (f : Frame) (said : Bool) {after : List ℕ} → f.kind ≡ 1
    → member (senders words 1 (frame_instance f) f.value) f.sender ≡ false
    → delivering words h w f said ≡ (accepted tt, after)
    → (v : ℕ) → v < values (frame_instance f) → member (senders words 1 (frame_instance f) v) f.sender ≡ false
unfolding held_aux
first_aux words h w f said {after} k n e =
    let (_, _, _, c) = passed words after h w f said e in
    by_record (λ _. (v : ℕ) → v < values (frame_instance f) → member (senders words 1 (frame_instance f) v) f.sender ≡ false) words after f
    (λ m v l. let t = rw k at m in cc)
    (λ p. first_nowhere (λ v. member (senders words 1 (frame_instance f) v) f.sender) (values (frame_instance f))
    (rw (ne_eqb f.kind 0 (λ z. omega arith)) at p))
    c

-- ---- What 11 asks

-- of an honest host: what it may send, it has broadcast
pub asked_sent : (words : List ℕ) (h : Host) (w : World) (f : Frame) → asking words h w f ≡ accepted true → lying h ≡ false
    → has_sent words f.kind (frame_instance f) f.value ≡ true
unfolding asking may_send
asked_sent words h w f e l =
    let (_, s) = clear (ready_guards (length words) h w ++ sender_guards w f) (may_send words h f) e in
    sym (s ∙ rw l)
