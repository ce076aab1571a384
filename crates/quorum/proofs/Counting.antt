-- Counting hosts: what the sizes of two sets tell of their common members, and what one member more adds. Assumes nothing.
use Prim.Native.Nat.{ℕ, zero, suc, ◌+◌, ◌≤◌, ◌<◌}
use mathlib.Core.Path.{◌≡◌, refl, ap₂}
use mathlib.Core.Bool.{Bool, true, false, not, ◌&&◌, and-false}
use native.Mathlib.Decide.{ℕ_discrete, dec_lt}
use native.Mathlib.Omega.{arith}
use borrow.Author.Tests.{eq-eqb, ne_eqb, lt-ltb, le-ltb}
use lib.Dec.{eqb, ltb}
use Rattle.quorum.specs.Count.{one, count}

one_and : (a b : Bool) → one a + one b ≤ 1 + one (a && b)
one_and true true = omega arith
one_and true false = omega arith
one_and false true = omega arith
one_and false false = omega arith

-- two sets among n hosts overlap by at least what their sizes exceed n
pub count_and : (n : ℕ) (p q : ℕ → Bool) → count n p + count n q ≤ n + count n (λ x. p x && q x)
unfolding count
count_and zero p q = omega arith
count_and (suc n) p q = omega (arith, one_and (p 0) (q 0), count_and n (λ x. p (suc x)) (λ x. q (suc x)))

one_not : (a : Bool) → one a + one (not a) ≡ 1
one_not true = refl
one_not false = refl

-- a set and those outside it are all n hosts
pub count_not : (n : ℕ) (p : ℕ → Bool) → count n p + count n (λ x. not (p x)) ≡ n
unfolding count
count_not zero p = refl
count_not (suc n) p = omega (arith, one_not (p 0), count_not n (λ x. p (suc x)))

-- the last of the hosts counted apart
pub count_last : (n : ℕ) (p : ℕ → Bool) → count (suc n) p ≡ count n p + one (p n)
unfolding count
count_last zero p = omega arith
count_last (suc n) p = omega (arith, count_last n (λ x. p (suc x)))

-- tests that answer alike count alike
pub count_same : (n : ℕ) (p q : ℕ → Bool) → ((x : ℕ) → p x ≡ q x) → count n p ≡ count n q
unfolding count
count_same zero p q f = refl
count_same (suc n) p q f = ap₂ ◌+◌ (rw (f 0) refl) (count_same n (λ x. p (suc x)) (λ x. q (suc x)) (λ x. f (suc x)))

one_within : (a b : Bool) → (a ≡ true → b ≡ true) → one a ≤ one b
one_within true b f = rw (f refl) (omega arith)
one_within false b f = omega arith

-- a set within another has no more members
pub count_within : (n : ℕ) (p q : ℕ → Bool) → ((x : ℕ) → x < n → p x ≡ true → q x ≡ true) → count n p ≤ count n q
unfolding count
count_within zero p q f = omega arith
count_within (suc n) p q f =
    omega (arith, one_within (p 0) (q 0) (f 0 (omega arith)), count_within n (λ x. p (suc x)) (λ x. q (suc x)) (λ x l. f (suc x) (omega arith)))

-- a set that is not empty has a member
some_go : (n : ℕ) (p : ℕ → Bool) (b : Bool) → p 0 ≡ b → (0 < count n (λ x. p (suc x)) → (x : ℕ) × (x < n) × (p (suc x) ≡ true))
    → 0 < one b + count n (λ x. p (suc x)) → (x : ℕ) × (x < suc n) × (p x ≡ true)
some_go n p true e f h = (0, omega arith, e)
some_go n p false e f h = let (x, l, g) = f (omega arith) in (suc x, omega arith, g)

pub count_some : (n : ℕ) (p : ℕ → Bool) → 0 < count n p → (x : ℕ) × (x < n) × (p x ≡ true)
unfolding count
count_some zero p h = absurd (omega arith)
count_some (suc n) p h = some_go n p (p 0) refl (count_some n (λ x. p (suc x))) h

-- a test that no host passes counts none
pub count_none : (n : ℕ) (p : ℕ → Bool) → ((x : ℕ) → p x ≡ false) → count n p ≡ 0
unfolding count
count_none zero p f = refl
count_none (suc n) p f = rw (f 0) (omega (arith, count_none n (λ x. p (suc x)) (λ x. f (suc x))))

-- below the next number is what is below n, and n
pub one_more : (v n m : ℕ) → m ≡ suc n → one (ltb v n) + one (eqb v n) ≡ one (ltb v m)
one_more v n m s = go (dec_lt v n) (ℕ_discrete v n)
  where
    go : Dec (v < n) → Dec (v ≡ n) → one (ltb v n) + one (eqb v n) ≡ one (ltb v m)
    go (yes l) (yes e) = absurd (omega arith)
    go (yes l) (no d) = rw (lt-ltb v n l, ne_eqb v n d, lt-ltb v m (omega arith)) refl
    go (no g) (yes e) = rw (le-ltb v n (omega arith), eq-eqb v n e, lt-ltb v m (omega arith)) refl
    go (no g) (no d) = rw (le-ltb v n (omega arith), ne_eqb v n d, le-ltb v m (omega arith)) refl

-- tests that differ at v alone, where b says so: the second counts one more, if v is among the first n
count_upto : (n : ℕ) (p q : ℕ → Bool) (b : Bool) (v : ℕ) → ((x : ℕ) → x < n → one (q x) ≡ one (p x) + one (b && eqb v x))
    → count n q ≡ count n p + one (b && ltb v n)
unfolding count
count_upto zero p q b v f = rw (le-ltb v 0 (omega arith), and-false b) refl
count_upto (suc n) p q b v f =
    omega (arith, count_last n p, count_last n q, count_upto n p q b v (λ x l. f x (omega arith)), f n (omega arith), go b)
  where
    go : (b : Bool) → one (b && ltb v n) + one (b && eqb v n) ≡ one (b && ltb v (suc n))
    go true = one_more v n (suc n) refl
    go false = refl

-- and where v is among them, what b says
pub count_more : (n : ℕ) (p q : ℕ → Bool) (b : Bool) (v : ℕ) → (b ≡ true → v < n)
    → ((x : ℕ) → x < n → one (q x) ≡ one (p x) + one (b && eqb v x)) → count n q ≡ count n p + one b
count_more n p q true v l f = rw (lt-ltb v n (l refl)) at (count_upto n p q true v f)
count_more n p q false v l f = count_upto n p q false v f
