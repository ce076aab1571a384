-- What a search through all instances and values has found so far, and what it finds. Assumes nothing.
use Prim.Native.Nat.{ℕ, ◌+◌, ◌*◌, ◌/◌, ◌%◌, ◌<◌}
use mathlib.Core.Path.{◌≡◌, refl, sym, ap, ◌∙◌}
use mathlib.Core.Bool.{Bool, true, false}
use mathlib.Core.Logic.{◌⊎◌, inl, inr}
use native.Mathlib.Decide.{dec_lt}
use native.Mathlib.Omega.{arith}
use Rattle.host.specs.First.{first}
use Rattle.std.specs.Prelude.{Option, Some, None}
use Rattle.host.proofs.Firsts.{first_is, first_nowhere, first_none, first_at}
use Rattle.turn.specs.Moves.{in_order, found_at, search}

-- "by round, phase, stage and value": value v of instance i comes before value w of instance j
abbrev pub Earlier : ℕ → ℕ → ℕ → ℕ → Type 0
Earlier i v j w = (i < j) ⊎ ((i ≡ j) × (v < w))

-- value v of instance i passes, and nothing before it does
abbrev pub Foremost : (ℕ → ℕ → Bool) → ℕ → ℕ → Type 0
Foremost p i v = (i < 64) × (v < 3) × (p i v ≡ true) × ((j w : ℕ) → w < 3 → Earlier j w i v → p j w ≡ false)

-- no value of any instance passes
abbrev pub NoneDue : (ℕ → ℕ → Bool) → Type 0
NoneDue p = (i v : ℕ) → i < 64 → v < 3 → p i v ≡ false

in_order_lem : (p : ℕ → ℕ → Bool) (i v : ℕ) → v < 3 → p i v ≡ in_order p (3 * i + v)
in_order_lem p i v l =
    let a : (3 * i + v) / 3 ≡ i = omega arith in
    let b : (3 * i + v) % 3 ≡ v = omega arith in
    rw (a, b)

before : (i v j w : ℕ) → v < 3 → Earlier i v j w → 3 * i + v < 3 * j + w
before i v j w l (inl m) = omega arith
before i v j w l (inr (s, m)) = omega arith

none_before : (p : ℕ → ℕ → Bool) (i v k : ℕ) → k / 3 ≡ i → k % 3 ≡ v → ((j : ℕ) → j < k → in_order p j ≡ false)
    → (j w : ℕ) → w < 3 → Earlier j w i v → p j w ≡ false
none_before p i v k a b o j w l r =
    let m = before j w i v l r in
    in_order_lem p j w l ∙ o (3 * j + w) (omega arith)

found_place : (q : Option ℕ) (i v : ℕ) → found_at q ≡ Some (i, v) → (k : ℕ) × (q ≡ Some k) × (k / 3 ≡ i) × (k % 3 ≡ v)
found_place (Some k) i v e =
    let s : ◌≡◌ {A = ℕ × ℕ} (k / 3, k % 3) (i, v) = cc in
    (k, refl, ap (λ x. x.0) s, ap (λ x. x.1) s)
found_place None i v e = absurd (cc)

found_none : (q : Option ℕ) → found_at q ≡ None → q ≡ None
found_none (Some k) e = cc
found_none None e = refl

-- what a search found passes, and nothing before it does
pub search_at : (p : ℕ → ℕ → Bool) (i v : ℕ) → search p ≡ Some (i, v) → Foremost p i v
unfolding search
search_at p i v e =
    let (k, q, a, b) = found_place (first (in_order p) 192) i v e in
    let (l, t, o) = first_at (in_order p) 192 k q in
    (omega arith, omega arith, rw (a, b) at t, none_before p i v k a b o)

-- a search that found nothing: nothing passes
pub search_nothing : (p : ℕ → ℕ → Bool) → search p ≡ None → NoneDue p
unfolding search
search_nothing p e i v l m =
    in_order_lem p i v m ∙ first_nowhere (in_order p) 192 (found_none (first (in_order p) 192) e) (3 * i + v) (omega arith)

-- nothing passes: a search finds nothing
pub search_none : (p : ℕ → ℕ → Bool) → NoneDue p → search p ≡ None
unfolding search
search_none p f = rw (first_none (in_order p) 192 (λ k l. f (k / 3) (k % 3) (omega arith) (omega arith)))

earlier : (k i v : ℕ) → v < 3 → k < 3 * i + v → Dec (k / 3 < i) → Earlier (k / 3) (k % 3) i v
earlier k i v m l (yes b) = inl b
earlier k i v m l (no n) = inr (omega arith, omega arith)

-- what passes, where nothing before it does, is what a search finds
pub search_is : (p : ℕ → ℕ → Bool) (i v : ℕ) → Foremost p i v → search p ≡ Some (i, v)
unfolding search
search_is p i v (l, m, t, o) =
    let x : (3 * i + v) / 3 ≡ i = omega arith in
    let y : (3 * i + v) % 3 ≡ v = omega arith in
    let none : first (in_order p) (3 * i + v) ≡ None =
    first_none (in_order p) (3 * i + v) (λ k b. o (k / 3) (k % 3) (omega arith) (earlier k i v m b (dec_lt (k / 3) i))) in
    rw (first_is (in_order p) (3 * i + v) 192 none (sym (in_order_lem p i v m) ∙ t) (omega arith), x, y)

-- ---- A search in progress

-- a search through the instances, each by its values: nothing passes below instance i
pub record Below (p : ℕ → ℕ → Bool) (i : ℕ) : Type 0 where
  pub none : (j w : ℕ) → j < i → w < 3 → p j w ≡ false

module _ (p : ℕ → ℕ → Bool) where
  -- none of an instance's values passes: the search goes on
  pub goes_on : (i : ℕ) → Below p i → first (p i) 3 ≡ None → Below p (i + 1)
  goes_on i b e = record { none = λ j w l m. here j w l m (dec_lt j i) }
    where
      here : (j w : ℕ) → j < i + 1 → w < 3 → Dec (j < i) → p j w ≡ false
      here j w l m (yes a) = b.none j w a m
      here j w l m (no n) =
          let s : j ≡ i = omega arith in
          rw s (first_nowhere (p i) 3 e w m)

  -- or one does
  pub hits : (i v : ℕ) → i < 64 → Below p i → first (p i) 3 ≡ Some v → search p ≡ Some (i, v)
  hits i v l b e =
      let (m, t, o) = first_at (p i) 3 v e in
      search_is p i v (l, m, t, λ j w n r. before_it j w n o r)
    where
      before_it : (j w : ℕ) → w < 3 → ((u : ℕ) → u < v → p i u ≡ false) → Earlier j w i v → p j w ≡ false
      before_it j w n o (inl a) = b.none j w a n
      before_it j w n o (inr (s, a)) = rw s (o w a)

  pub misses : Below p 64 → search p ≡ None
  misses b = search_none p b.none
