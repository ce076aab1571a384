-- What a view makes of a host's record: document 01's "After the view", each of its sentences. Assumes nothing.
use Prim.Native.Nat.{ℕ, ◌+◌, ◌*◌, ◌/◌, ◌%◌, ◌^◌, ◌≤◌, ◌<◌}
use mathlib.Core.Path.{◌≡◌, refl, sym, ◌∙◌}
use mathlib.Core.Bool.{Bool, true, false, cond, ◌&&◌}
use native.Mathlib.Omega.{arith}
use lib.Dec.{leb, eqb}
use borrow.Author.Tests.{leb-false, lt-leb, le-leb, eqb-true, eqb-false, eq-eqb, ne_eqb}
use Rattle.std.proofs.lemmas.Bool.{and_parts}
use Rattle.answer.proofs.Tests.{either}
use Rattle.quorum.specs.Sets.{member}
use Rattle.host.specs.Record.{coin, moved, stood, Valid}
use Rattle.host.proofs.Ranges.{moved_valid, stood_valid}
use Rattle.view.specs.View.{only_of, after_first, phase_estimate, after_phase, decided, round_estimate, after_round, after_view}
use Rattle.host.specs.declared.Host.{Host}

-- ---- Views of one value

only_go : (P : ℕ → ℕ → Type 0) (view : ℕ) (a b : Bool) → eqb view 1 ≡ a → eqb view 2 ≡ b → P 1 0 → P 2 1
    → ((view ≡ 1 → ⊥) → (view ≡ 2 → ⊥) → P view 2) → P view (cond a 0 (cond b 1 2))
only_go P view true b p q one two else = rw (eqb-true view 1 p) one
only_go P view false true p q one two else = rw (eqb-true view 2 q) two
only_go P view false false p q one two else = else (eqb-false view 1 p) (eqb-false view 2 q)

-- the three cases of `only_of`: {0}, {1} and all else
by_only : (P : ℕ → ℕ → Type 0) (view : ℕ) → P 1 0 → P 2 1 → ((view ≡ 1 → ⊥) → (view ≡ 2 → ⊥) → P view 2) → P view (only_of view)
unfolding only_of
by_only P view = only_go P view (eqb view 1) (eqb view 2) refl refl

-- a view whose one value is 0: it holds 0 alone
pub only_zero : (view : ℕ) → only_of view ≡ 0 → (member view 0 ≡ true) × (member view 1 ≡ false) × (member view 2 ≡ false)
unfolding member
only_zero view =
    by_only (λ v o. o ≡ 0 → (member v 0 ≡ true) × (member v 1 ≡ false) × (member v 2 ≡ false)) view
    (λ e. (refl, refl, refl)) (λ e. absurd (omega arith)) (λ p q e. absurd (omega arith))

-- one whose one value is 1
pub only_one : (view : ℕ) → only_of view ≡ 1 → (member view 0 ≡ false) × (member view 1 ≡ true) × (member view 2 ≡ false)
unfolding member
only_one view =
    by_only (λ v o. o ≡ 1 → (member v 0 ≡ false) × (member v 1 ≡ true) × (member v 2 ≡ false)) view
    (λ e. absurd (omega arith)) (λ e. (refl, refl, refl)) (λ p q e. absurd (omega arith))

not_single : (view : ℕ) → only_of view ≡ 2 → (view ≡ 1 → ⊥) × (view ≡ 2 → ⊥)
not_single view =
    by_only (λ v o. o ≡ 2 → (v ≡ 1 → ⊥) × (v ≡ 2 → ⊥)) view (λ e. absurd (omega arith)) (λ e. absurd (omega arith)) (λ p q e. (p, q))

is_in : (view v : ℕ) → member view v ≡ true → view / 2 ^ v % 2 ≡ 1
unfolding member
is_in view v = eqb-true (view / 2 ^ v % 2) 1

is_out : (view v : ℕ) → member view v ≡ false → view / 2 ^ v % 2 ≡ 0
unfolding member
is_out view v e = let n = eqb-false (view / 2 ^ v % 2) 1 e in omega arith

three_bits : (view x y z : ℕ) → view < 8 → view / 1 % 2 ≡ x → view / 2 % 2 ≡ y → view / 4 % 2 ≡ z → view ≡ x + 2 * y + 4 * z
three_bits view x y z l a b c = omega arith

-- any other view of the three values holds neither 0 alone nor 1 alone
pub only_neither : (view : ℕ) → view < 8 → only_of view ≡ 2
    → (member view 0 ≡ true → member view 1 ≡ false → member view 2 ≡ false → ⊥)
    × (member view 0 ≡ false → member view 1 ≡ true → member view 2 ≡ false → ⊥)
only_neither view l e =
    let (zero, one) = not_single view e in (
      λ a b c. zero (three_bits view 1 0 0 l (is_in view 0 a) (is_out view 1 b) (is_out view 2 c)),
      λ a b c. one (three_bits view 0 1 0 l (is_out view 0 a) (is_in view 1 b) (is_out view 2 c)),
    )

-- a view of one value 0 or 1 does not hold both
not_two : (view : ℕ) → (only_of view ≡ 2 → ⊥) → member view 0 && member view 1 ≡ false
unfolding member
not_two view = by_only (λ v o. (o ≡ 2 → ⊥) → member v 0 && member v 1 ≡ false) view (λ n. refl) (λ n. refl) (λ p q n. absurd (n refl))

-- it holds its value
holds_only : (view est : ℕ) → (only_of view ≡ 2 → ⊥) → round_estimate view est ≡ only_of view
unfolding member round_estimate
holds_only view est = by_only (λ v o. (o ≡ 2 → ⊥) → round_estimate v est ≡ o) view (λ n. refl) (λ n. refl) (λ p q n. absurd (n refl))

-- ---- Cases

view_go : (P : Host → Type 0) (h a b c d : Host) (m n : Bool) (x y z : Bool) → eqb h.stage 0 ≡ x → m && n ≡ y → eqb h.phase 1 ≡ z
    → (h.stage ≡ 0 → P a)
    → ((h.stage ≡ 0 → ⊥) → m ≡ true → n ≡ true → P b)
    → ((h.stage ≡ 0 → ⊥) → h.phase ≡ 1 → P c)
    → ((h.stage ≡ 0 → ⊥) → (h.phase ≡ 1 → ⊥) → P d)
    → P (cond x a (cond y b (cond z c d)))
view_go P h a b c d m n true y z ex ey ez fa fb fc fd = fa (eqb-true h.stage 0 ex)
view_go P h a b c d m n false true z ex ey ez fa fb fc fd = let (l, r) = and_parts m n ey in fb (eqb-false h.stage 0 ex) l r
view_go P h a b c d m n false false true ex ey ez fa fb fc fd = fc (eqb-false h.stage 0 ex) (eqb-true h.phase 1 ez)
view_go P h a b c d m n false false false ex ey ez fa fb fc fd = fd (eqb-false h.stage 0 ex) (eqb-false h.phase 1 ez)

-- the four cases of a view: stage 0, both 0 and 1 in stage 1, phase 1, phase 2
by_view : (P : Host → Type 0) (h : Host) (view : ℕ)
    → (h.stage ≡ 0 → P (after_first h view))
    → ((h.stage ≡ 0 → ⊥) → member view 0 ≡ true → member view 1 ≡ true → P (stood h 2))
    → ((h.stage ≡ 0 → ⊥) → h.phase ≡ 1 → P (after_phase h view))
    → ((h.stage ≡ 0 → ⊥) → (h.phase ≡ 1 → ⊥) → P (after_round h (round_estimate view h.est) (decided view h.decision)))
    → P (after_view h view)
unfolding after_view
by_view P h view =
    view_go P h (after_first h view) (stood h 2) (after_phase h view)
    (after_round h (round_estimate view h.est) (decided view h.decision))
    (member view 0) (member view 1) (eqb h.stage 0) (member view 0 && member view 1) (eqb h.phase 1) refl refl refl

-- the two cases of a round's end
by_round : (P : Host → Type 0) (h : Host) (est decision : ℕ) → P (stood (moved h h.round h.phase h.stage h.own est decision) 1)
    → P (moved h (h.round + 1) 1 0 est est decision) → P (after_round h est decision)
unfolding after_round
by_round P h est decision p q = either P (leb 16 h.round) _ _ (λ _. p) (λ _. q)

-- ---- Decisions

decides : (view decision : ℕ) → decision ≡ 2 → decided view decision ≡ only_of view
unfolding decided
decides view decision e = rw (eq-eqb decision 2 e) refl

keeps : (view decision : ℕ) → (decision ≡ 2 → ⊥) → decided view decision ≡ decision
unfolding decided
keeps view decision n = rw (ne_eqb decision 2 n) refl

-- "a decider's estimate is its decision"
pub decider_estimate : (h : Host) (view : ℕ) → h.decision ≡ 2 → ((after_view h view).decision ≡ 2 → ⊥)
    → (after_view h view).est ≡ (after_view h view).decision
decider_estimate h view e =
    by_view (λ g. (g.decision ≡ 2 → ⊥) → g.est ≡ g.decision) h view
    (λ s n. absurd (n e)) (λ s l r n. absurd (n e)) (λ s p n. absurd (n e))
    (λ s p. by_round (λ g. (g.decision ≡ 2 → ⊥) → g.est ≡ g.decision) h _ _ same same)
  where
    same : (decided view h.decision ≡ 2 → ⊥) → round_estimate view h.est ≡ decided view h.decision
    same = rw (decides view h.decision e) (holds_only view h.est)

-- a decision stays
pub decision_stays : (h : Host) (view : ℕ) → (h.decision ≡ 2 → ⊥) → (after_view h view).decision ≡ h.decision
decision_stays h view n =
    by_view (λ g. g.decision ≡ h.decision) h view (λ s. refl) (λ s l r. refl) (λ s p. refl)
    (λ s p. by_round (λ g. g.decision ≡ h.decision) h _ _ (keeps view h.decision n) (keeps view h.decision n))

-- only the view of stage 1, phase 2 decides, and what it decides is its one value
pub decides_only : (h : Host) (view : ℕ) → h.decision ≡ 2 → ((after_view h view).decision ≡ 2 → ⊥)
    → (h.stage ≡ 0 → ⊥) × (h.phase ≡ 1 → ⊥) × ((after_view h view).decision ≡ only_of view)
decides_only h view e =
    by_view (λ g. (g.decision ≡ 2 → ⊥) → (h.stage ≡ 0 → ⊥) × (h.phase ≡ 1 → ⊥) × (g.decision ≡ only_of view)) h view
    (λ s n. absurd (n e)) (λ s l r n. absurd (n e)) (λ s p n. absurd (n e))
    (λ s p. by_round (λ g. (g.decision ≡ 2 → ⊥) → (h.stage ≡ 0 → ⊥) × (h.phase ≡ 1 → ⊥) × (g.decision ≡ only_of view)) h _ _
    (λ n. (s, p, decides view h.decision e)) (λ n. (s, p, decides view h.decision e)))

-- ---- Estimates

later : (h : Host) → h.stage ≡ 1 → eqb h.stage 0 ≡ false
later h s = ne_eqb h.stage 0 (λ z. omega arith)

phase_one : (h : Host) (view : ℕ) → h.stage ≡ 1 → h.phase ≡ 1 → member view 0 && member view 1 ≡ false
    → after_view h view ≡ after_phase h view
unfolding after_view
phase_one h view s p e = rw (later h s, e, eq-eqb h.phase 1 p) refl

phase_two : (h : Host) (view : ℕ) → h.stage ≡ 1 → h.phase ≡ 2 → member view 0 && member view 1 ≡ false
    → after_view h view ≡ after_round h (round_estimate view h.est) (decided view h.decision)
unfolding after_view
phase_two h view s p e = rw (later h s, e, ne_eqb h.phase 1 (λ z. omega arith)) refl

-- "a view of one value 0 or 1 becomes the estimate": there is no coin then
pub single_estimate : (h : Host) (view : ℕ) → h.stage ≡ 1 → h.phase ≡ 1 → (only_of view ≡ 2 → ⊥) → (after_view h view).est ≡ only_of view
unfolding phase_estimate
single_estimate h view s p n = rw (phase_one h view s p (not_two view n), ne_eqb (only_of view) 2 n) refl

-- "otherwise the estimate is the host's coin bit of that round", and not the old estimate
pub coin_estimate : (h : Host) (view : ℕ) → h.stage ≡ 1 → h.phase ≡ 1 → member view 0 && member view 1 ≡ false → only_of view ≡ 2
    → (after_view h view).est ≡ coin h
unfolding phase_estimate
coin_estimate h view s p e o = rw (phase_one h view s p e, eq-eqb (only_of view) 2 o) refl

round_end : (h : Host) (est decision : ℕ) → ((after_round h est decision).est ≡ est) × ((after_round h est decision).decision ≡ decision)
round_end h est decision = by_round (λ g. (g.est ≡ est) × (g.decision ≡ decision)) h est decision (refl, refl) (refl, refl)

one_alone : (a b : Bool) → a && b ≡ false → b ≡ true → a ≡ false
one_alone true b e t = cc
one_alone false b e t = refl

undecided : (b : Bool) (d o : ℕ) → eqb d 2 ≡ b → o ≡ 2 → cond b o d ≡ d
undecided true d o e p = p ∙ sym (eqb-true d 2 e)
undecided false d o e p = refl

-- "v and neither makes the estimate v; only neither changes nothing"
pub seen_estimate : (h : Host) (view : ℕ) → h.stage ≡ 1 → h.phase ≡ 2 → member view 0 && member view 1 ≡ false
    → (member view 0 ≡ true → (after_view h view).est ≡ 0) × (member view 1 ≡ true → (after_view h view).est ≡ 1)
    × (member view 0 ≡ false → member view 1 ≡ false → (after_view h view).est ≡ h.est)
    × (only_of view ≡ 2 → (after_view h view).decision ≡ h.decision)
unfolding round_estimate decided
seen_estimate h view s p e =
    let (est, decision) = round_end h (round_estimate view h.est) (decided view h.decision) in
    rw (phase_two h view s p e) (
      λ l. est ∙ rw l refl,
      λ r. est ∙ rw (one_alone (member view 0) (member view 1) e r, r) refl,
      λ l r. est ∙ rw (l, r) refl,
      λ o. decision ∙ undecided (eqb h.decision 2) h.decision (only_of view) refl o,
    )

-- ".. Phase 2 follows", with the estimate as the own value and the decision as it was
pub phase_follows : (h : Host) (view : ℕ) → h.stage ≡ 1 → h.phase ≡ 1 → member view 0 && member view 1 ≡ false
    → after_view h view ≡ moved h h.round 2 0 (after_view h view).est (after_view h view).est h.decision
phase_follows h view s p e = rw (phase_one h view s p e) refl

-- ".. Then the next round.", with the estimate as the own value
pub round_follows : (h : Host) (view : ℕ) → h.stage ≡ 1 → h.phase ≡ 2 → member view 0 && member view 1 ≡ false → h.round < 16
    → after_view h view ≡ moved h (h.round + 1) 1 0 (after_view h view).est (after_view h view).est (after_view h view).decision
unfolding after_round
round_follows h view s p e l = rw (phase_two h view s p e, lt-leb 16 h.round l) refl

-- "After round 16 a host is finished: it stays at round 16, phase 2, stage 1 with the own value it had there"
pub round_ends : (h : Host) (view : ℕ) → h.stage ≡ 1 → h.phase ≡ 2 → member view 0 && member view 1 ≡ false → 16 ≤ h.round
    → after_view h view
    ≡ stood (moved h h.round h.phase h.stage h.own (after_view h view).est (after_view h view).decision) 1
unfolding after_round
round_ends h view s p e l = rw (phase_two h view s p e, le-leb 16 h.round l) refl

-- "one value v gives v as the own value of stage 1; two values give "neither""
pub first_own : (h : Host) (view : ℕ) → h.stage ≡ 0 → after_view h view ≡ moved h h.round h.phase 1 (only_of view) h.est h.decision
unfolding after_view
first_own h view s = rw (eq-eqb h.stage 0 s) refl

-- ---- Broken

-- "A stage 1 view that holds both 0 and 1: the host is broken", all else as it was
pub breaks : (h : Host) (view : ℕ) → h.stage ≡ 1 → member view 0 ≡ true → member view 1 ≡ true → after_view h view ≡ stood h 2
unfolding after_view
breaks h view s l r = rw (later h s, l, r) refl

-- nothing else breaks a host
pub breaks_only : (h : Host) (view : ℕ) → (h.standing ≡ 2 → ⊥) → (after_view h view).standing ≡ 2
    → (member view 0 ≡ true) × (member view 1 ≡ true) × (h.stage ≡ 0 → ⊥)
breaks_only h view n =
    by_view (λ g. g.standing ≡ 2 → (member view 0 ≡ true) × (member view 1 ≡ true) × (h.stage ≡ 0 → ⊥)) h view
    (λ s e. absurd (n e)) (λ s l r e. (l, r, s)) (λ s p e. absurd (n e))
    (λ s p. by_round (λ g. g.standing ≡ 2 → (member view 0 ≡ true) × (member view 1 ≡ true) × (h.stage ≡ 0 → ⊥)) h _ _
    (λ e. absurd (omega arith)) (λ e. absurd (n e)))

-- and nothing makes it a liar
pub honest_stays : (h : Host) (view : ℕ) → (h.standing ≡ 3 → ⊥) → (after_view h view).standing ≡ 3 → ⊥
honest_stays h view n =
    by_view (λ g. g.standing ≡ 3 → ⊥) h view (λ s. n) (λ s l r e. omega arith) (λ s p. n)
    (λ s p. by_round (λ g. g.standing ≡ 3 → ⊥) h _ _ (λ e. omega arith) n)

-- ---- What a view leaves alone

-- the sent count
pub sent_stays : (h : Host) (view : ℕ) → (after_view h view).sent ≡ h.sent
sent_stays h view =
    by_view (λ g. g.sent ≡ h.sent) h view (λ s. refl) (λ s l r. refl) (λ s p. refl)
    (λ s p. by_round (λ g. g.sent ≡ h.sent) h _ _ refl refl)

-- the coin bits
pub coins_stay : (h : Host) (view : ℕ) → (after_view h view).coins ≡ h.coins
coins_stay h view =
    by_view (λ g. g.coins ≡ h.coins) h view (λ s. refl) (λ s l r. refl) (λ s p. refl)
    (λ s p. by_round (λ g. g.coins ≡ h.coins) h _ _ refl refl)

-- ---- Ranges

-- the one value of a view is 0, 1 or, where it is not of one of them, 2
pub only_low : (view : ℕ) → only_of view < 3
only_low view = by_only (λ v o. o < 3) view (omega arith) (omega arith) (λ p q. omega arith)

coin_low : (h : Host) → coin h < 2
unfolding coin
coin_low h = omega arith

phase_low : (view c : ℕ) → c < 2 → phase_estimate view c < 2
unfolding phase_estimate
phase_low view c l = by_only (λ v o. cond (eqb o 2) c o < 2) view (omega arith) (omega arith) (λ p q. l)

round_low : (view est : ℕ) → est < 2 → round_estimate view est < 2
unfolding round_estimate
round_low view est l =
    either (λ x. x < 2) (member view 0) 0 _ (λ _. omega arith) (λ _. either (λ x. x < 2) (member view 1) 1 est (λ _. omega arith) (λ _. l))

decided_low : (view d : ℕ) → d < 3 → decided view d < 3
unfolding decided
decided_low view d l = either (λ x. x < 3) (eqb d 2) (only_of view) d (λ _. only_low view) (λ _. l)

next_valid : (h : Host) (est decision : ℕ) (b : Bool) → leb 16 h.round ≡ b → Valid h → est < 2 → decision < 3 → (h.stage ≡ 0 → ⊥)
    → Valid (cond b (stood (moved h h.round h.phase h.stage h.own est decision) 1) (moved h (h.round + 1) 1 0 est est decision))
next_valid h est decision true e d l m n =
    stood_valid (moved h h.round h.phase h.stage h.own est decision) 1
    (moved_valid h _ _ _ _ _ _ d (omega arith) (λ z. absurd (n z))) (omega arith)
next_valid h est decision false e d l m n =
    let below = leb-false 16 h.round e in
    moved_valid h _ _ _ _ _ _ d (omega arith) (λ z. refl)

-- a view takes a record in range to one in range: what a call answers, the next call does not refuse by 13
pub view_valid : (h : Host) (view : ℕ) → Valid h → Valid (after_view h view)
unfolding after_round
view_valid h view d =
    let own = only_low view in
    let est = phase_low view (coin h) (coin_low h) in
    by_view Valid h view
    (λ s. moved_valid h _ _ _ _ _ _ d (omega arith) (λ z. absurd (omega arith)))
    (λ s l r. stood_valid h 2 d (omega arith))
    (λ s p. moved_valid h _ _ _ _ _ _ d (omega arith) (λ z. refl))
    (λ s p. next_valid h _ _ (leb 16 h.round) refl d (round_low view h.est d.est) (decided_low view h.decision d.decision) s)
