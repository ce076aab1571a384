-- What a step on the table changes and answers: the part of its host alone, and what that host's delivery or turn answers. Assumes nothing.
use Prim.Native.Nat.{ℕ, ◌+◌, ◌-◌, ◌*◌, ◌≤◌, ◌<◌}
use mathlib.Core.Path.{◌≡◌, refl, sym, ap, subst, ◌∙◌}
use mathlib.Core.Bool.{Bool, true, false, cond, true≢false}
use mathlib.Core.Logic.{◌⊎◌, inl, inr, ⊎_elim}
use mathlib.Core.List.{List, ◌++◌, append_assoc}
use native.Mathlib.Decide.{dec_lt}
use native.Mathlib.Omega.{arith}
use lib.ListN.{length, take, drop, length-append, length-take, length-drop, take-append-drop}
use lib.Seq.{drop-drop, take_at, drop_at, take-append-le, drop-append-le, drop-append-add}
use Rattle.answer.specs.Answer.{Answer, refused, accepted, going_on}
use Rattle.answer.proofs.Guards.{not_both}
use Rattle.frame.specs.Frame.{unpacking}
use Rattle.frame.specs.declared.Frame.{Frame}
use Rattle.quorum.specs.declared.World.{World}
use Rattle.host.specs.Record.{Valid}
use Rattle.host.specs.declared.Host.{Host}
use Rattle.delivery.specs.Delivery.{delivering_word, asking}
use Rattle.delivery.proofs.Changes.{word_refused, word_delivered, delivery_one_bit}
use Rattle.turn.specs.Applying.{Turn, idle, quiet, broadcast}
use Rattle.turn.specs.Turning.{turning}
use Rattle.turn.proofs.Turns.{turn_refused, turn_marks, turn_sent, quiet_sent, turn_valid, idle_frame}
use Rattle.file.specs.declared.Event.{Event}
use Rattle.table.specs.Table.{part_of, with_part, on_part, agreed, said, passed, passed_on, delivering_at, turning_at}
use Rattle.table.specs.Stepping.{delivers, readying, acting, stepping}
use Rattle.table.proofs.Passing.{step_in}

-- ---- Parts

-- a part put back as it was changes nothing, also beyond the table's end
pub part_same : (table : List ℕ) (i : ℕ) → with_part table i (part_of table i) ≡ table
unfolding part_of with_part
part_same table i = rw (← drop-drop 448 (448 * i) table, take-append-drop, take-append-drop) refl

-- a table with as many words for a host has as many words
pub with_length : (table : List ℕ) (i : ℕ) (part : List ℕ) → length part ≡ length (part_of table i) → length (with_part table i part) ≡ length table
unfolding part_of with_part
with_length table i part e = simp (length-append, e, length-take, length-drop) (omega arith)

-- what stands before a cut does not depend on what stands behind it
before_cut : (m n : ℕ) (xs ys zs : List ℕ) → m + n ≤ length xs → take n (drop m (xs ++ ys)) ≡ take n (drop m (xs ++ zs))
before_cut m n xs ys zs l =
    let here : m ≤ length xs = omega arith in
    let enough : n ≤ length (drop m xs) = rw length-drop (omega arith) in
    simp (drop-append-le m xs, take-append-le n (drop m xs))

-- nor what stands behind it on what stands before
behind_cut : (m : ℕ) (xs ys zs : List ℕ) → length xs ≤ m → length xs ≡ length ys → drop m (xs ++ zs) ≡ drop m (ys ++ zs)
behind_cut m xs ys zs l e = from xs refl ∙ sym (from ys (sym e))
  where
    from : (us : List ℕ) → length us ≡ length xs → drop m (us ++ zs) ≡ drop (m - length xs) zs
    from us q =
        let k : m ≡ length us + (m - length xs) = omega arith in
        ap (λ (n : ℕ). drop n (us ++ zs)) k ∙ drop-append-add us zs (m - length xs)

-- one of 32 hosts, in a table for so many
module _ (table : List ℕ) (i : ℕ) (here : i < 32) (enough : 14336 ≤ length table) where
  -- the words before it are those of the hosts before it
  front_length : length (take (448 * i) table) ≡ 448 * i
  front_length = length-take (448 * i) table ∙ omega arith

  -- there are all of its words
  pub part_length : length (part_of table i) ≡ 448
  unfolding part_of
  part_length = simp (length-take, length-drop) (omega arith)

  -- the words that are put are the host's
  pub own_part : (part : List ℕ) → length part ≡ 448 → part_of (with_part table i part) i ≡ part
  unfolding part_of with_part
  own_part part e =
      let back = drop (448 * i + 448) table in
      rw (drop_at (take (448 * i) table) (part ++ back) (448 * i) front_length, take_at part back 448 e) refl

  -- those of the other hosts are as they were
  pub other_parts : (part : List ℕ) (j : ℕ) → length part ≡ 448 → (j ≡ i → ⊥) → part_of (with_part table i part) j ≡ part_of table j
  unfolding part_of with_part
  other_parts part j e d = go (dec_lt j i) ∙ ap (λ (t : List ℕ). take 448 (drop (448 * j) t)) (part_same table i)
    where
      front : List ℕ
      front = take (448 * i) table

      back : List ℕ
      back = drop (448 * i + 448) table

      go : Dec (j < i) → take 448 (drop (448 * j) (front ++ (part ++ back))) ≡ take 448 (drop (448 * j) (front ++ (part_of table i ++ back)))
      go (yes l) = before_cut (448 * j) 448 front (part ++ back) (part_of table i ++ back) (omega (arith, front_length))
      go (no g) =
          let beyond : length (front ++ part) ≤ 448 * j = simp length-append (omega (arith, front_length)) in
          let level : length (front ++ part) ≡ length (front ++ part_of table i) = simp length-append (omega (arith, part_length)) in
          simp (← append_assoc front) (ap (take 448) (behind_cut (448 * j) (front ++ part) (front ++ part_of table i) back beyond level))

-- ---- A host's own call

-- a delivery leaves as many words
word_length : (words : List ℕ) (h : Host) (w : World) (word : ℕ) (b : Bool) (a : Answer Unit) {after : List ℕ}
    → delivering_word words h w word b ≡ (a, after) → length after ≡ length words
word_length words h w word b (refused k) e = ap length (word_refused words h w word b e)
word_length words h w word b (accepted u) e = let (f, _, r) = word_delivered words h w word b e in (delivery_one_bit words h w f b r).0

agreed_is : (a : Answer Bool) → agreed a ≡ true → a ≡ accepted true
agreed_is (accepted b) e = rw e
agreed_is (refused k) e = absurd (true≢false (sym e))

-- a frame counts as said where its sender's own record and words agree to it
pub said_asked : (table : List ℕ) (s : Host) (w : World) (word : ℕ) (f : Frame) → unpacking word ≡ accepted f → said table s w word ≡ true
    → asking (part_of table f.sender) s w f ≡ accepted true
unfolding said
said_asked table s w word f q e = agreed_is (asking (part_of table f.sender) s w f) (rw q at e)

-- a step is refused where its delivery is
passed_refused : (a : Answer Unit) {k : ℕ} → passed a ≡ refused k → a ≡ refused k
passed_refused (refused j) q = cc
passed_refused (accepted u) q = absurd (not_both refl q)

-- and accepted, as idle, where its delivery is
passed_accepted : (r : Answer Unit × List ℕ) {a : Turn} {part : List ℕ} → passed_on r ≡ (accepted a, part) → (r ≡ (accepted tt, part)) × (a ≡ idle)
passed_accepted (refused k, words) q = absurd (not_both (ap (λ x. x.0) q) refl)
passed_accepted (accepted u, words) q =
    let p = ap (λ x. x.0) q in
    (ap {B = Answer Unit × List ℕ} (λ x. (accepted tt, x)) (ap (λ x. x.1) q), cc)

-- ---- A step

module _ (table : List ℕ) (h s : Host) (w : World) (e : Event) where
  -- the words of the event's host
  abbrev words : List ℕ
  words = part_of table e.host

  -- what its delivery or its turn answers, and leaves of them
  abbrev own : Bool → Answer Turn × List ℕ
  own true = passed_on (delivering_word words h w e.word (said table s w e.word))
  own false = turning words h w e.host

  -- it leaves as many
  own_length : (b : Bool) → length (own b).1 ≡ length words
  own_length true = word_length words h w e.word (said table s w e.word) _ refl
  own_length false = (turn_marks words h w e.host refl).0

  -- and where it refuses, the same
  own_refused : (b : Bool) {k : ℕ} → (own b).0 ≡ refused k → (own b).1 ≡ words
  own_refused true q =
      word_refused words h w e.word (said table s w e.word) (ap {B = Answer Unit × List ℕ} (λ a. (a, (own true).1)) (passed_refused _ q))
  own_refused false q = turn_refused words h w e.host (ap {B = Answer Turn × List ℕ} (λ a. (a, (own false).1)) q)

  -- put into the table, what it leaves are the host's words
  own_back : e.host < 32 → 14336 ≤ length table → part_of (with_part table e.host (own (delivers e)).1) e.host ≡ (own (delivers e)).1
  own_back l m = own_part table e.host l m (own (delivers e)).1 (own_length (delivers e) ∙ part_length table e.host l m)

  -- the two ways of a step: its guards refuse it, or it is the host's own call
  by_step : (P : Answer Turn → List ℕ → Type 0) {a : Answer Turn} {after : List ℕ} → stepping table h s w e ≡ (a, after)
      → ((k : ℕ) → P (refused k) table)
      → (e.host < 32 → 14336 ≤ length table → P (own (delivers e)).0 (with_part table e.host (own (delivers e)).1)) → P a after
  unfolding stepping delivering_at turning_at
  by_step P q none call = subst on q (go (readying (length table) h s w e) refl)
    where
      on : Answer Turn × List ℕ → Type 0
      on x = P x.0 x.1

      choose : (b : Bool) → on (on_part table e.host (own b)) → on (cond b (delivering_at table h s w e) (turning_at table h w e))
      choose true p = p
      choose false p = p

      go : (r : Answer Unit) → readying (length table) h s w e ≡ r → on (going_on table r (acting table h s w e))
      go (refused k) r = none k
      go (accepted u) r = let (l, m) = step_in (length table) h s w e r in choose (delivers e) (call l m)

  -- a refused step leaves the table
  pub step_refused : {k : ℕ} {after : List ℕ} → stepping table h s w e ≡ (refused k, after) → after ≡ table
  step_refused {k} q =
      by_step (λ a t. a ≡ refused k → t ≡ table) q (λ j r. refl) (λ l m r. rw (own_refused (delivers e) r) (part_same table e.host)) refl

  -- every step leaves as many words
  pub step_length : {a : Answer Turn} {after : List ℕ} → stepping table h s w e ≡ (a, after) → length after ≡ length table
  step_length q =
      by_step (λ a t. length t ≡ length table) q (λ k. refl)
      (λ l m. with_length table e.host (own (delivers e)).1 (own_length (delivers e)))

  -- the words of the other hosts are as they were
  pub step_others : {a : Answer Turn} {after : List ℕ} (j : ℕ) → stepping table h s w e ≡ (a, after) → (j ≡ e.host → ⊥)
      → part_of after j ≡ part_of table j
  step_others j q d =
      by_step (λ a t. part_of t j ≡ part_of table j) q (λ k. refl)
      (λ l m. other_parts table e.host l m (own (delivers e)).1 j (own_length (delivers e) ∙ part_length table e.host l m) d)

  -- and the table is the old one with the words that its host has now
  pub step_part : {a : Answer Turn} {after : List ℕ} → stepping table h s w e ≡ (a, after)
      → after ≡ with_part table e.host (part_of after e.host)
  step_part q =
      by_step (λ a t. t ≡ with_part table e.host (part_of t e.host)) q (λ k. sym (part_same table e.host)) (λ l m. rw (own_back l m))

  -- an accepted step is what the host's own call answers and leaves of its words
  step_own : (a : Turn) (after : List ℕ) → stepping table h s w e ≡ (accepted a, after)
      → own (delivers e) ≡ (accepted a, part_of after e.host)
  step_own a after q =
      by_step (λ x t. x ≡ accepted a → own (delivers e) ≡ (accepted a, part_of t e.host)) q
      (λ k r. absurd (not_both r refl))
      (λ l m r. rw (own_back l m) (ap {B = Answer Turn × List ℕ} (λ x. (x, (own (delivers e)).1)) r)) refl

  -- that of a turn is the turn of the host on its words
  pub step_turn : {a : Turn} {after : List ℕ} → delivers e ≡ false → stepping table h s w e ≡ (accepted a, after)
      → turning (part_of table e.host) h w e.host ≡ (accepted a, part_of after e.host)
  step_turn {a} {after} d q = rw d at (step_own a after q)

  -- and that of a delivery the delivery to it, of a frame that its sender was asked about
  pub step_delivery : {a : Turn} {after : List ℕ} → delivers e ≡ true → stepping table h s w e ≡ (accepted a, after)
      → (delivering_word (part_of table e.host) h w e.word (said table s w e.word) ≡ (accepted tt, part_of after e.host)) × (a ≡ idle)
  step_delivery {a} {after} d q = passed_accepted (delivering_word words h w e.word (said table s w e.word)) (rw d at (step_own a after q))

  -- so an accepted step that is not idle is a turn
  pub step_acts : {a : Turn} {after : List ℕ} → stepping table h s w e ≡ (accepted a, after)
      → (a ≡ idle) ⊎ (turning (part_of table e.host) h w e.host ≡ (accepted a, part_of after e.host))
  step_acts {a} {after} q = go (delivers e) refl
    where
      go : (b : Bool) → delivers e ≡ b → (a ≡ idle) ⊎ (turning words h w e.host ≡ (accepted a, part_of after e.host))
      go true d = inl (step_delivery d q).1
      go false d = inr (step_turn d q)

  -- the sent count is that of the frames broadcast: one more with a broadcast
  pub step_sent : {g : Host} {f : Frame} {after : List ℕ} → stepping table h s w e ≡ (accepted (broadcast g f), after) → g.sent ≡ h.sent + 1
  step_sent q = ⊎_elim (λ i. cc) (turn_sent words h w e.host) (step_acts q)

  -- and the same without
  pub step_quiet : {g : Host} {after : List ℕ} → stepping table h s w e ≡ (accepted (quiet g), after) → g.sent ≡ h.sent
  step_quiet q = ⊎_elim (λ i. cc) (quiet_sent words h w e.host) (step_acts q)

  -- the record that a step answers with a broadcast is in range
  pub step_valid : {g : Host} {f : Frame} {after : List ℕ} → stepping table h s w e ≡ (accepted (broadcast g f), after) → Valid g
  step_valid q = ⊎_elim (λ i. absurd (idle_frame i)) (turn_valid words h w e.host) (step_acts q)

  -- and the one without
  pub quiet_valid : {g : Host} {after : List ℕ} → stepping table h s w e ≡ (accepted (quiet g), after) → Valid g
  quiet_valid q = ⊎_elim (λ i. absurd (true≢false (cc))) (turn_valid words h w e.host) (step_acts q)
