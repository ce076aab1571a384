-- Joining and taking apart undo each other, over any layout. Assumes nothing.
use Prim.Native.Nat.{ℕ, suc, ◌+◌, ◌*◌, ◌/◌, ◌%◌, ◌^◌, ◌<◌}
use mathlib.Core.Path.{◌≡◌, refl, sym, ap, ◌∙◌}
use mathlib.Core.List.{List, [], ◌∷◌}
use native.Mathlib.Nat.{mod-one, mod-eq_of_lt, add-mul, mul_assoc, add_assoc, suc-mul, mul-le-mul_right, zero-mul, zero-add}
use native.Mathlib.Omega.{arith}
use lib.Pow.{pow-add, mod-pow-add, high, low}
use Rattle.frame.specs.Layout.{total, fields, joined, Fit}

-- a word's fields hold its bits within the layout
within : (ks : List ℕ) (w : ℕ) → joined ks (fields ks w) ≡ w % 2 ^ total ks
within [] w = sym (mod-one w)
within (k ∷ ks) w = ap (λ (x : ℕ). w / 2 ^ total ks % 2 ^ k * 2 ^ total ks + x) (within ks w) ∙ sym (mod-pow-add w k (total ks))

-- a word that the layout is wide enough for is what its fields join to
pub join_fields : (ks : List ℕ) (w : ℕ) → w < 2 ^ total ks → joined ks (fields ks w) ≡ w
join_fields ks w h = within ks w ∙ mod-eq_of_lt h

-- fields that fit make a word of no more bits than the layout
joined_lt : (ks xs : List ℕ) → Fit ks xs → joined ks xs < 2 ^ total ks
joined_lt [] [] f = omega arith
joined_lt (k ∷ ks) (x ∷ xs) (h, f) =
    rw (pow-add 2 k (total ks))
    (omega (arith, joined_lt ks xs f, suc-mul x (2 ^ total ks), mul-le-mul_right {m = suc x} {n = 2 ^ k} (2 ^ total ks) h))
joined_lt [] (x ∷ xs) f = elim f [ ]
joined_lt (k ∷ ks) [] f = elim f [ ]

-- a word h above a layout of k and t bits stands above the first field and the rest
above : (h k x t j : ℕ) → h * 2 ^ (k + t) + (x * 2 ^ t + j) ≡ (h * 2 ^ k + x) * 2 ^ t + j
above h k x t j = rw (pow-add 2 k t, add-mul, mul_assoc, add_assoc)

-- fields that fit are those of the word that they make, whatever stands above it
fields_above : (ks xs : List ℕ) (h : ℕ) → Fit ks xs → fields ks (h * 2 ^ total ks + joined ks xs) ≡ xs
fields_above [] [] h f = refl
fields_above (k ∷ ks) (x ∷ xs) h (l, f) =
    rw (above h k x (total ks) (joined ks xs), high (h * 2 ^ k + x) (total ks) (joined_lt ks xs f), low h k l)
    (ap (λ (r : List ℕ). x ∷ r) (fields_above ks xs (h * 2 ^ k + x) f))
fields_above [] (x ∷ xs) h f = elim f [ ]
fields_above (k ∷ ks) [] h f = elim f [ ]

pub fields_join : (ks xs : List ℕ) → Fit ks xs → fields ks (joined ks xs) ≡ xs
fields_join ks xs f = rw (zero-mul, zero-add) at (fields_above ks xs 0 f)
