-- Words and numbers as they are printed: lists of bytes. Bytes are numbers: nothing here knows how wide one is.
use Rattle.std.specs.Prelude.{ℕ, zero, suc, ◌+◌, ◌/◌, ◌%◌, cond, List, [], ◌∷◌, ◌++◌, ltb}
use Prim.Native.Char.{code}
use Prim.Native.String.{String, [] as none, ◌∷◌ as ◌then◌}

-- the bytes of a text in ASCII: its characters' codes
unfoldable pub text : String → List ℕ
text none = []
text (c then s) = code c ∷ text s

-- the byte of a digit: 0 is 48
abbrev pub digit : ℕ → ℕ
digit d = 48 + d

-- a number's digits, the highest first, if `most` digits are enough for it
unfoldable pub digits_in : ℕ → ℕ → List ℕ
digits_in zero n = []
digits_in (suc most) n = cond (ltb n 10) (digit n ∷ []) (digits_in most (n / 10) ++ digit (n % 10) ∷ [])

-- a number in decimal, with no zero in front: n + 1 digits are enough for any n
unfoldable pub decimal : ℕ → List ℕ
decimal n = digits_in (suc n) n
