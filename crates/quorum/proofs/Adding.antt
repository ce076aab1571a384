-- Who is in a set to which a host was added, in a union, in the empty set and in a set that is not empty, and how many are in a set of hosts
-- below n, over any width. Assumes nothing.
use Prim.Native.Nat.{ℕ, zero, suc, ◌*◌, ◌/◌, ◌%◌, ◌^◌, ◌<◌, max}
use mathlib.Core.Path.{◌≡◌, refl, sym, ap, ◌∙◌}
use mathlib.Core.Bool.{Bool, true, false, ◌||◌, or-true, or-false}
use native.Mathlib.Nat.{pow-suc}
use native.Mathlib.Decide.{ℕ_discrete}
use native.Mathlib.Omega.{arith}
use lib.Bits.{bit_or}
use lib.Dec.{eqb}
use borrow.Author.Tests.{eqb-false}
use Rattle.std.specs.Int.{bit_at}
use Rattle.std.proofs.lemmas.Nat.{one_shl}
use Rattle.std.proofs.lemmas.Nat.Bits.{bit_at_or, bit_at-zero, bit_at-lt, bit_at-pow_same, bit_at-pow_other}
use Rattle.quorum.specs.Count.{count}
use Rattle.quorum.specs.Sets.{member, size, add, union}
use Rattle.quorum.proofs.Members.{member_suc, size_counts}

digits : (a b : ℕ) → a < 2 → b < 2 → eqb (max a b) 1 ≡ eqb a 1 || eqb b 1
digits zero zero p q = refl
digits zero (suc zero) p q = refl
digits zero (suc (suc b)) p q = absurd (omega arith)
digits (suc zero) zero p q = refl
digits (suc zero) (suc zero) p q = refl
digits (suc zero) (suc (suc b)) p q = absurd (omega arith)
digits (suc (suc a)) b p q = absurd (omega arith)

-- in a union is who is in one of the two
pub member_union : (a b j : ℕ) → member (union a b) j ≡ member a j || member b j
unfolding member
member_union a b j = rw (bit_at_or a b j) (digits (bit_at a j) (bit_at b j) (bit_at-lt a j) (bit_at-lt b j))

-- nobody is in the empty set
pub member_none : (j : ℕ) → member 0 j ≡ false
unfolding member
member_none j = rw (bit_at-zero j) refl

only_same : (j : ℕ) → member (2 ^ j) j ≡ true
unfolding member
only_same j = rw (bit_at-pow_same j) refl

only_other : (i j : ℕ) → (i ≡ j → ⊥) → member (2 ^ i) j ≡ false
unfolding member
only_other i j h = rw (bit_at-pow_other i j (λ e. h (sym e))) refl

-- who was added is in, and of all others nothing changed
pub added : (set j : ℕ) → member (add set j) j ≡ true
unfolding add
added set j = member_union set (2 ^ j) j ∙ rw only_same (or-true (member set j))

pub added_other : (set j i : ℕ) → (j ≡ i → ⊥) → member (add set j) i ≡ member set i
unfolding add
added_other set j i h = member_union set (2 ^ j) i ∙ rw (only_other j i h) (or-false (member set i))

-- a set that is not empty has a member
even_word : (w : ℕ) → member w 0 ≡ false → w % 2 ≡ 0
unfolding member
even_word w e = let f = eqb-false (w / 1 % 2) 1 e in omega arith

some_go : (w : ℕ) (b : Bool) → member w 0 ≡ b → ((w / 2 ≡ 0 → ⊥) → (j : ℕ) × (member (w / 2) j ≡ true)) → (w ≡ 0 → ⊥) → (j : ℕ) × (member w j ≡ true)
some_go w true e f h = (0, e)
some_go w false e f h =
    let z = even_word w e in
    let (j, g) = f (λ q. h (omega arith)) in
    (suc j, sym (member_suc w j) ∙ g)

some_below : (n w : ℕ) → w < 2 ^ n → (w ≡ 0 → ⊥) → (j : ℕ) × (member w j ≡ true)
some_below zero w l h = absurd (h (omega arith))
some_below (suc n) w l h = some_go w (member w 0) refl (some_below n (w / 2) (omega (arith, rw pow-suc at l))) h

below_pow : (w : ℕ) → w < 2 ^ w
below_pow zero = omega arith
below_pow (suc w) = rw pow-suc (omega (arith, below_pow w))

pub some_member : (w : ℕ) → (w ≡ 0 → ⊥) → (j : ℕ) × (member w j ≡ true)
some_member w h = some_below w w (below_pow w) h

no_word : (w : ℕ) → ((j : ℕ) → member w j ≡ true → j < 0) → Dec (w ≡ 0) → w < 1
no_word w f (yes e) = omega arith
no_word w f (no h) = let (j, e) = some_member w h in absurd (omega (arith, f j e))

members_below : (n w : ℕ) → ((j : ℕ) → member w j ≡ true → j < n) → w < 2 ^ n
members_below zero w f = no_word w f (ℕ_discrete w 0)
members_below (suc n) w f =
    let half : w / 2 < 2 ^ n = members_below n (w / 2) (λ j e. let l = f (suc j) (sym (member_suc w j) ∙ e) in omega arith) in
    rw pow-suc (omega arith)

-- the size of a set of hosts below n is the number of its members among them
pub members_count : (n w : ℕ) → ((j : ℕ) → member w j ≡ true → j < n) → size w ≡ count n (member w)
members_count n w f = size_counts n w (members_below n w f)

-- `w | 1 << j` in a machine's word of `width` bits
pub or_shl : (width j : ℕ) → j < width → (w : ℕ) → bit_or w (1 * 2 ^ j % 2 ^ width) ≡ add w j
unfolding add
or_shl width j l w = ap (bit_or w) (one_shl j width l)
