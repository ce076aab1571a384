-- A set of hosts as a word, of any width: host j is a member where bit j is one.
use Rattle.std.specs.Prelude.{ℕ, ◌/◌, ◌%◌, ◌^◌, ◌≡◌, Bool, eqb}
use Rattle.std.specs.Int.Bits.{bit_or}
use Rattle.std.specs.Int.Count.{ones}

unfoldable pub member : ℕ → ℕ → Bool
member set j = eqb (set / 2 ^ j % 2) 1

-- "The size of a sender set is its number of ones": what `count_ones` of the machine's word gives
abbrev pub size : ℕ → ℕ
size set = ones set

-- the set with host j added
unfoldable pub add : ℕ → ℕ → ℕ
add set j = bit_or set (2 ^ j)

-- the hosts that are in one set or the other
abbrev pub union : ℕ → ℕ → ℕ
union a b = bit_or a b

-- the promise of `has`
abbrev pub Has : ℕ → ℕ → Bool → Type 0
Has set j answer = answer ≡ member set j
