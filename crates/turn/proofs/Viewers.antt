-- Whose values a view holds: the senders whose recorded AUX value is admitted, and the values of all of them. Assumes nothing.
use Prim.Native.Nat.{ℕ, zero, suc, ◌+◌, ◌≤◌, ◌<◌}
use mathlib.Core.Path.{◌≡◌, refl, sym, ◌∙◌}
use mathlib.Core.Bool.{Bool, true, false, cond, ◌&&◌, ◌||◌, not, or-true}
use mathlib.Core.List.{List}
use native.Mathlib.Omega.{arith}
use lib.Dec.{ltb, eqb}
use borrow.Author.Tests.{ltb-true, lt-ltb, eqb-true, eqb-false, not-true}
use Rattle.answer.proofs.Tests.{clash}
use Rattle.quorum.specs.Sets.{member, union}
use Rattle.quorum.proofs.Adding.{member_union, member_none, some_member}
use Rattle.host.specs.Words.{values, AUX, senders, admitted}
use Rattle.turn.specs.Moves.{heard, viewers, view_of}

-- ---- Who is heard

heard_go : (a b : Bool) (set j : ℕ) → member (cond (a && b) set 0) j ≡ true → (a ≡ true) × (b ≡ true) × (member set j ≡ true)
heard_go true true set j e = (refl, refl, e)
heard_go true false set j e = clash e (member_none j)
heard_go false b set j e = clash e (member_none j)

-- who is heard with a value: the value is admitted, and its recorded AUX is of this value
pub heard_means : (words : List ℕ) (i v j : ℕ) → member (heard words i v) j ≡ true
    → (v < values i) × (admitted words i v ≡ true) × (member (senders words AUX i v) j ≡ true)
unfolding heard
heard_means words i v j e =
    let (l, a, m) = heard_go (ltb v (values i)) (admitted words i v) (senders words AUX i v) j e in
    (ltb-true v (values i) l, a, m)

-- and who has such an AUX recorded is heard
pub heard_when : (words : List ℕ) (i v j : ℕ) → v < values i → admitted words i v ≡ true → member (senders words AUX i v) j ≡ true
    → member (heard words i v) j ≡ true
unfolding heard
heard_when words i v j l a m = rw (lt-ltb v (values i) l, a, m)

viewers_are : (words : List ℕ) (i j : ℕ)
    → member (viewers words i) j ≡ member (heard words i 0) j || member (heard words i 1) j || member (heard words i 2) j
unfolding viewers
viewers_are words i j =
    member_union (union (heard words i 0) (heard words i 1)) (heard words i 2) j ∙ rw (member_union (heard words i 0) (heard words i 1) j)

one_of : (f : ℕ → Bool) (a b c : Bool) → f 0 ≡ a → f 1 ≡ b → f 2 ≡ c → a || b || c ≡ true → (v : ℕ) × (f v ≡ true)
one_of f true b c p q r e = (0, p)
one_of f false true c p q r e = (1, q)
one_of f false false c p q r e = (2, r ∙ e)

-- a sender that counts for the view: its recorded AUX is of an admitted value
pub viewer_heard : (words : List ℕ) (i j : ℕ) → member (viewers words i) j ≡ true
    → (v : ℕ) × (v < values i) × (admitted words i v ≡ true) × (member (senders words AUX i v) j ≡ true)
viewer_heard words i j e =
    let (v, m) = one_of (λ v. member (heard words i v) j) _ _ _ refl refl refl (sym (viewers_are words i j) ∙ e) in
    let (l, a, s) = heard_means words i v j m in
    (v, l, a, s)

any_of : (f : ℕ → Bool) (v : ℕ) → v < 3 → f v ≡ true → f 0 || f 1 || f 2 ≡ true
any_of f zero l e = rw e
any_of f (suc zero) l e = rw (e, or-true (f 0))
any_of f (suc (suc zero)) l e = rw (e, or-true (f 0 || f 1))
any_of f (suc (suc (suc v))) l e = absurd (omega arith)

-- a sender whose recorded AUX is of an admitted value counts for the view
pub heard_viewer : (words : List ℕ) (i v j : ℕ) → v < values i → admitted words i v ≡ true → member (senders words AUX i v) j ≡ true
    → member (viewers words i) j ≡ true
heard_viewer words i v j l a m =
    viewers_are words i j ∙ any_of (λ v. member (heard words i v) j) v (omega arith) (heard_when words i v j l a m)

-- ---- The view

-- a view as a word: its bits 0, 1 and 2
view_word : (a b c : Bool) → (member (cond a 0 1 + cond b 0 2 + cond c 0 4) 0 ≡ not a)
    × (member (cond a 0 1 + cond b 0 2 + cond c 0 4) 1 ≡ not b) × (member (cond a 0 1 + cond b 0 2 + cond c 0 4) 2 ≡ not c)
unfolding member
view_word true true true = (refl, refl, refl)
view_word true true false = (refl, refl, refl)
view_word true false true = (refl, refl, refl)
view_word true false false = (refl, refl, refl)
view_word false true true = (refl, refl, refl)
view_word false true false = (refl, refl, refl)
view_word false false true = (refl, refl, refl)
view_word false false false = (refl, refl, refl)

view_bit : (f : ℕ → ℕ) (v : ℕ) → v < 3 → member (view_of (f 0) (f 1) (f 2)) v ≡ not (eqb (f v) 0)
unfolding view_of
view_bit f zero l = (view_word (eqb (f 0) 0) (eqb (f 1) 0) (eqb (f 2) 0)).0
view_bit f (suc zero) l = (view_word (eqb (f 0) 0) (eqb (f 1) 0) (eqb (f 2) 0)).1
view_bit f (suc (suc zero)) l = (view_word (eqb (f 0) 0) (eqb (f 1) 0) (eqb (f 2) 0)).2
view_bit f (suc (suc (suc v))) l = absurd (omega arith)

choice_low : (b : Bool) (k : ℕ) → cond b 0 k ≤ k
choice_low true k = omega arith
choice_low false k = omega arith

-- a view is a set of the three values
pub view_small : (a b c : ℕ) → view_of a b c < 8
unfolding view_of
view_small a b c = omega (arith, choice_low (eqb a 0) 1, choice_low (eqb b 0) 2, choice_low (eqb c 0) 4)

-- a value that the view holds was heard of someone
pub view_values : (words : List ℕ) (i v : ℕ) → v < 3 → member (view_of (heard words i 0) (heard words i 1) (heard words i 2)) v ≡ true
    → (j : ℕ) × (member (heard words i v) j ≡ true)
view_values words i v l e =
    some_member (heard words i v) (eqb-false _ _ (not-true (eqb (heard words i v) 0) (sym (view_bit (heard words i) v l) ∙ e)))

someone : (set j : ℕ) (b : Bool) → eqb set 0 ≡ b → member set j ≡ true → not b ≡ true
someone set j true e m = clash m (rw (eqb-true set 0 e) (member_none j))
someone set j false e m = refl

-- a value heard of anyone is in the view
pub view_holds : (words : List ℕ) (i v j : ℕ) → v < 3 → member (heard words i v) j ≡ true
    → member (view_of (heard words i 0) (heard words i 1) (heard words i 2)) v ≡ true
view_holds words i v j l m = view_bit (heard words i) v l ∙ someone (heard words i v) j (eqb (heard words i v) 0) refl m
