-- A host's words. Document 01, "What a host does": "For each instance a host holds: for each value, the set of senders whose VAL arrived; for
-- each sender, its first AUX; which values it has itself broadcast as VAL; the admitted values; whether it has begun; the AUX it has sent, if
-- any." Seven words to an instance; docs/API.md says what each bit means. Words are numbers: nothing here knows how wide one is.
use Rattle.std.specs.Prelude.{ℕ, ◌+◌, ◌-◌, ◌*◌, ◌%◌, Bool, List, get_or, set}
use Rattle.quorum.specs.Sets.{member, add}

-- "One round, phase and stage together are an instance": numbered from 0, in this order, 64 of them
abbrev pub instance : ℕ → ℕ → ℕ → ℕ
instance round phase stage = 4 * (round - 1) + 2 * (phase - 1) + stage

-- how many values an instance has: 0, 1 and, "in stage 1 only", neither (2)
abbrev pub values : ℕ → ℕ
values i = 2 + i % 2

-- the kinds of frames: "0 VAL, 1 AUX"
abbrev pub VAL : ℕ
VAL = 0

abbrev pub AUX : ℕ
AUX = 1

-- where an instance's set of senders of a kind and a value stands
abbrev pub set_at : ℕ → ℕ → ℕ → ℕ
set_at kind i v = 7 * i + 3 * kind + v

unfoldable pub senders : List ℕ → ℕ → ℕ → ℕ → ℕ
senders words kind i v = get_or words (set_at kind i v) 0

-- the instance's marks, what the host itself did there: bits 0 to 2 VAL broadcast, 3 to 5 admitted, 6 begun, 7 to 9 AUX sent
abbrev pub marks_at : ℕ → ℕ
marks_at i = 7 * i + 6

unfoldable pub marks : List ℕ → ℕ → ℕ
marks words i = get_or words (marks_at i) 0

-- the bit for a frame of a kind and a value that it has broadcast, for a value admitted, and for having begun
abbrev pub sent_bit : ℕ → ℕ → ℕ
sent_bit kind v = 7 * kind + v

abbrev pub admit_bit : ℕ → ℕ
admit_bit v = 3 + v

abbrev pub begun_bit : ℕ
begun_bit = 6

abbrev pub has_sent : List ℕ → ℕ → ℕ → ℕ → Bool
has_sent words kind i v = member (marks words i) (sent_bit kind v)

abbrev pub admitted : List ℕ → ℕ → ℕ → Bool
admitted words i v = member (marks words i) (admit_bit v)

abbrev pub begun : List ℕ → ℕ → Bool
begun words i = member (marks words i) begun_bit

-- the words with one bit more: a sender in a set, a mark
unfoldable pub put : List ℕ → ℕ → ℕ → List ℕ
put words at j = set words at (add (get_or words at 0) j)

abbrev pub mark : List ℕ → ℕ → ℕ → List ℕ
mark words i j = put words (marks_at i) j
