-- Fields in a word, "packed most significant first" (document 01, "Frames and run files"), for a layout that is the list of its
-- fields' widths in bits. Nothing here knows which layout, nor how wide a word is: words are numbers.
use Rattle.std.specs.Prelude.{ℕ, ◌+◌, ◌*◌, ◌/◌, ◌%◌, ◌^◌, ◌<◌, List, [], ◌∷◌}

-- how many bits a layout has
abbrev pub total : List ℕ → ℕ
total [] = 0
total (k ∷ ks) = k + total ks

-- the fields of a word: the first stands above the bits of all that follow
abbrev pub fields : List ℕ → ℕ → List ℕ
fields [] w = []
fields (k ∷ ks) w = w / 2 ^ total ks % 2 ^ k ∷ fields ks w

-- the word that has these fields
abbrev pub joined : List ℕ → List ℕ → ℕ
joined [] xs = 0
joined (k ∷ ks) [] = 0
joined (k ∷ ks) (x ∷ xs) = x * 2 ^ total ks + joined ks xs

-- as many numbers as the layout has fields, each of no more bits than its field
abbrev pub Fit : List ℕ → List ℕ → Type 0
Fit [] [] = Unit
Fit [] (x ∷ xs) = ⊥
Fit (k ∷ ks) [] = ⊥
Fit (k ∷ ks) (x ∷ xs) = (x < 2 ^ k) × Fit ks xs
