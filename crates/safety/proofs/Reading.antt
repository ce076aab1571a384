-- What a run's words and records say: each bit of a host's words that means something is an item, and the items of all hosts are the state of
-- the vote. docs/API.md has the words, bit by bit. Assumes nothing.
use Prim.Native.Nat.{ℕ, zero, suc, ◌+◌, ◌-◌, ◌*◌, ◌/◌, ◌%◌, ◌≤◌, ◌<◌}
use mathlib.Core.Path.{◌≡◌, refl, sym, ap, ap₂, ◌∙◌}
use mathlib.Core.Bool.{Bool, true, false, ◌&&◌, false≢true}
use mathlib.Core.Option.{Option, none, some}
use mathlib.Core.List.{List, [], ◌∷◌}
use native.Mathlib.Omega.{arith}
use lib.Dec.{ltb}
use lib.ListN.{get_or}
use borrow.Author.Tests.{lt-ltb, ltb-true}
use Rattle.std.proofs.lemmas.Bool.{and_parts}
use Rattle.answer.proofs.Tests.{clash}
use Rattle.quorum.specs.Sets.{member}
use Rattle.host.specs.Words.{instance, values, VAL, AUX, set_at, marks_at, sent_bit, admit_bit, begun_bit}
use Rattle.safety.proofs.Votes.{Val, v0, v1, neither, Phase, phase1, phase2, Slot, stage0, stage1, History}
use Rattle.safety.proofs.Steps.{State}

-- ---- Values and instances by their numbers

abbrev pub num : Val → ℕ
num v0 = 0
num v1 = 1
num neither = 2

abbrev pub val_of : ℕ → Val
val_of zero = v0
val_of (suc zero) = v1
val_of (suc (suc k)) = neither

pub num_val : (k : ℕ) → k < 3 → num (val_of k) ≡ k
num_val zero l = refl
num_val (suc zero) l = refl
num_val (suc (suc zero)) l = refl
num_val (suc (suc (suc k))) l = absurd (omega arith)

pub num_low : (v : Val) → num v < 3
num_low v0 = omega arith
num_low v1 = omega arith
num_low neither = omega arith

-- the number of an instance, as `instance` counts them
abbrev pub code : Slot → ℕ
code (stage0 phase1) = 0
code (stage1 phase1) = 1
code (stage0 phase2) = 2
code (stage1 phase2) = 3

abbrev pub inst : ℕ → Slot → ℕ
inst r q = 4 * r + code q

pub code_low : (q : Slot) → code q < 4
code_low (stage0 phase1) = omega arith
code_low (stage1 phase1) = omega arith
code_low (stage0 phase2) = omega arith
code_low (stage1 phase2) = omega arith

abbrev pub slot_of : ℕ → Slot
slot_of zero = stage0 phase1
slot_of (suc zero) = stage1 phase1
slot_of (suc (suc zero)) = stage0 phase2
slot_of (suc (suc (suc k))) = stage1 phase2

slot_code : (q : Slot) → slot_of (code q) ≡ q
slot_code (stage0 phase1) = refl
slot_code (stage1 phase1) = refl
slot_code (stage0 phase2) = refl
slot_code (stage1 phase2) = refl

code_slot : (k : ℕ) → k < 4 → code (slot_of k) ≡ k
code_slot zero l = refl
code_slot (suc zero) l = refl
code_slot (suc (suc zero)) l = refl
code_slot (suc (suc (suc zero))) l = refl
code_slot (suc (suc (suc (suc k)))) l = absurd (omega arith)

-- every number is that of an instance, and of one alone
pub inst_of : (k : ℕ) → inst (k / 4) (slot_of (k % 4)) ≡ k
inst_of k = omega (arith, code_slot (k % 4) (omega arith))

inst_one : (r b : ℕ) (q c : Slot) → inst r q ≡ inst b c → (r ≡ b) × (q ≡ c)
inst_one r b q c e =
    let x = code_low q in
    let y = code_low c in
    let z : r ≡ b = omega arith in
    let k : code q ≡ code c = omega arith in
    (z, sym (slot_code q) ∙ ap slot_of k ∙ slot_code c)

-- the slot of a phase (1, 2) and a stage (0, 1)
abbrev pub phase_of : ℕ → Phase
phase_of zero = phase1
phase_of (suc zero) = phase1
phase_of (suc (suc p)) = phase2

abbrev pub slot_at : ℕ → ℕ → Slot
slot_at p zero = stage0 (phase_of p)
slot_at p (suc s) = stage1 (phase_of p)

slot_at_lem : (p s : ℕ) → 1 ≤ p → p ≤ 2 → s < 2 → code (slot_at p s) ≡ 2 * (p - 1) + s
slot_at_lem zero s a b c = absurd (omega arith)
slot_at_lem (suc zero) zero a b c = refl
slot_at_lem (suc zero) (suc zero) a b c = refl
slot_at_lem (suc (suc zero)) zero a b c = refl
slot_at_lem (suc (suc zero)) (suc zero) a b c = refl
slot_at_lem (suc zero) (suc (suc s)) a b c = absurd (omega arith)
slot_at_lem (suc (suc zero)) (suc (suc s)) a b c = absurd (omega arith)
slot_at_lem (suc (suc (suc p))) s a b c = absurd (omega arith)

-- round, phase and stage in their ranges are the instance of that round, counted from 0, and that slot
pub inst_at : (round phase stage : ℕ) → 1 ≤ phase → phase ≤ 2 → stage < 2 → inst (round - 1) (slot_at phase stage) ≡ instance round phase stage
inst_at round phase stage a b c = omega (arith, slot_at_lem phase stage a b c)

-- ---- Items

-- what one bit of a host's words says: a VAL, or an AUX, of this value from sender j has arrived; it has itself broadcast VAL v, admitted v,
-- broadcast AUX v; it has begun
pub data Item : Type 0 where
  val aux : Val → ℕ → Item
  said_val admits said_aux : Val → Item
  begun : Item

-- its word, of the seven of instance k
abbrev pub at : ℕ → Item → ℕ
at k (val v j) = set_at VAL k (num v)
at k (aux v j) = set_at AUX k (num v)
at k (said_val v) = marks_at k
at k (admits v) = marks_at k
at k (said_aux v) = marks_at k
at k begun = marks_at k

-- its bit in that word
abbrev pub bit : Item → ℕ
bit (val v j) = j
bit (aux v j) = j
bit (said_val v) = sent_bit VAL (num v)
bit (admits v) = admit_bit (num v)
bit (said_aux v) = sent_bit AUX (num v)
bit begun = begun_bit

-- which of the seven words
abbrev word : Item → ℕ
word (val v j) = num v
word (aux v j) = 3 + num v
word (said_val v) = 6
word (admits v) = 6
word (said_aux v) = 6
word begun = 6

at_word : (k : ℕ) (x : Item) → at k x ≡ 7 * k + word x
at_word k (val v j) = omega arith
at_word k (aux v j) = omega arith
at_word k (said_val v) = refl
at_word k (admits v) = refl
at_word k (said_aux v) = refl
at_word k begun = refl

word_low : (x : Item) → word x < 7
word_low (val v j) = omega (arith, num_low v)
word_low (aux v j) = omega (arith, num_low v)
word_low (said_val v) = omega arith
word_low (admits v) = omega arith
word_low (said_aux v) = omega arith
word_low begun = omega arith

-- the ten marks, and what bit e of the seven words means: word and bit tell the item
abbrev mark_at : ℕ → Item
mark_at e =
    get_or (said_val v0 ∷ said_val v1 ∷ said_val neither ∷ admits v0 ∷ admits v1 ∷ admits neither ∷ begun ∷ said_aux v0 ∷ said_aux v1 ∷ said_aux neither ∷ []) e begun

abbrev item_at : ℕ → ℕ → Item
item_at w e = get_or (val v0 e ∷ val v1 e ∷ val neither e ∷ aux v0 e ∷ aux v1 e ∷ aux neither e ∷ mark_at e ∷ []) w begun

item_at_lem : (x : Item) → item_at (word x) (bit x) ≡ x
item_at_lem (val v0 j) = refl
item_at_lem (val v1 j) = refl
item_at_lem (val neither j) = refl
item_at_lem (aux v0 j) = refl
item_at_lem (aux v1 j) = refl
item_at_lem (aux neither j) = refl
item_at_lem (said_val v0) = refl
item_at_lem (said_val v1) = refl
item_at_lem (said_val neither) = refl
item_at_lem (admits v0) = refl
item_at_lem (admits v1) = refl
item_at_lem (admits neither) = refl
item_at_lem (said_aux v0) = refl
item_at_lem (said_aux v1) = refl
item_at_lem (said_aux neither) = refl
item_at_lem begun = refl

-- no two items share a bit
pub place_one : (r b : ℕ) (q c : Slot) (x y : Item) → at (inst b c) y ≡ at (inst r q) x → bit y ≡ bit x → (b ≡ r) × (c ≡ q) × (y ≡ x)
place_one r b q c x y e f =
    let d = at_word (inst b c) y in
    let g = at_word (inst r q) x in
    let l = word_low x in
    let m = word_low y in
    let k : inst b c ≡ inst r q = omega arith in
    let w : word y ≡ word x = omega arith in
    let (p, s) = inst_one b r c q k in
    (p, s, sym (item_at_lem y) ∙ ap₂ item_at w f ∙ item_at_lem x)

-- ---- What the words of all hosts say

-- the words of each host
abbrev pub Words : Type 0
Words = ℕ → List ℕ

-- "Neither .. is allowed in stage 1 only": in stage 0 its words and marks mean nothing
abbrev pub fits : Slot → Val → Bool
fits (stage0 p) v0 = true
fits (stage0 p) v1 = true
fits (stage0 p) neither = false
fits (stage1 p) v = true

abbrev pub means : Slot → Item → Bool
means q (val v j) = fits q v
means q (aux v j) = fits q v
means q (said_val v) = fits q v
means q (admits v) = fits q v
means q (said_aux v) = fits q v
means q begun = true

-- the item holds of host i in the instance at slot q of round r
unfoldable pub holds : Words → ℕ → ℕ → Slot → Item → Bool
holds T i r q x = ltb r 16 && means q x && member (get_or (T i) (at (inst r q) x) 0) (bit x)

-- the lowest value that passes a test, as `first` finds it
abbrev first_of : Bool → Bool → Bool → Option Val
first_of true b c = some v0
first_of false true c = some v1
first_of false false true = some neither
first_of false false false = none

abbrev pub lowest : (Val → Bool) → Option Val
lowest p = first_of (p v0) (p v1) (p neither)

-- the state of the vote
unfoldable pub says : Words → History → State
says T D = record {
  val = λ i r q v j. holds T i r q (val v j);
  aux = λ i r q j. lowest (λ v. holds T i r q (aux v j));
  sent_val = λ i r q v. holds T i r q (said_val v);
  sent_aux = λ i r q. lowest (λ v. holds T i r q (said_aux v));
  adm = λ i r q v. holds T i r q (admits v);
  hist = D;
}

-- ---- What holding tells

pub holds_parts : (T : Words) (i r : ℕ) (q : Slot) (x : Item) → holds T i r q x ≡ true
    → (r < 16) × (means q x ≡ true) × (member (get_or (T i) (at (inst r q) x) 0) (bit x) ≡ true)
unfolding holds
holds_parts T i r q x e =
    let (a, m) = and_parts (ltb r 16 && means q x) (member (get_or (T i) (at (inst r q) x) 0) (bit x)) e in
    let (l, f) = and_parts (ltb r 16) (means q x) a in
    (ltb-true r 16 l, f, m)

pub holds_when : (T : Words) (i r : ℕ) (q : Slot) (x : Item) → r < 16 → means q x ≡ true
    → member (get_or (T i) (at (inst r q) x) 0) (bit x) ≡ true → holds T i r q x ≡ true
unfolding holds
holds_when T i r q x l f m = rw (lt-ltb r 16 l, f, m)

-- which values an instance has, by its slot
pub fits_low : (r : ℕ) (q : Slot) (v : Val) → fits q v ≡ true → num v < values (inst r q)
fits_low r (stage0 p) v0 e = omega arith
fits_low r (stage0 p) v1 e = omega arith
fits_low r (stage0 p) neither e = absurd (false≢true e)
fits_low r (stage1 phase1) v e = omega (arith, num_low v)
fits_low r (stage1 phase2) v e = omega (arith, num_low v)

pub low_fits : (r : ℕ) (q : Slot) (v : Val) → num v < values (inst r q) → fits q v ≡ true
low_fits r (stage0 p) v0 l = refl
low_fits r (stage0 p) v1 l = refl
low_fits r (stage0 phase1) neither l = absurd (omega arith)
low_fits r (stage0 phase2) neither l = absurd (omega arith)
low_fits r (stage1 p) v l = refl

-- ---- The lowest value that passes

pub lowest_has : (p : Val → Bool) (v : Val) → lowest p ≡ some v → p v ≡ true
lowest_has p v h = go (p v0) (p v1) (p neither) refl refl refl h
  where
    go : (a b c : Bool) → p v0 ≡ a → p v1 ≡ b → p neither ≡ c → first_of a b c ≡ some v → p v ≡ true
    go true b c e f g h = let z : v0 ≡ v = cc in rw (← z) e
    go false true c e f g h = let z : v1 ≡ v = cc in rw (← z) f
    go false false true e f g h = let z : neither ≡ v = cc in rw (← z) g
    go false false false e f g h = absurd (false≢true (cc))

-- where only one passes, it is that one
pub lowest_is : (p : Val → Bool) (v : Val) → ((u w : Val) → p u ≡ true → p w ≡ true → u ≡ w) → p v ≡ true → lowest p ≡ some v
lowest_is p v one h = go (p v0) (p v1) (p neither) refl refl refl
  where
    go : (a b c : Bool) → p v0 ≡ a → p v1 ≡ b → p neither ≡ c → first_of a b c ≡ some v
    go true b c e f g = ap {B = Option Val} some (one v0 v e h)
    go false true c e f g = ap {B = Option Val} some (one v1 v f h)
    go false false true e f g = ap {B = Option Val} some (one neither v g h)
    go false false false e f g = absurd (off v h e f g)
      where
        off : (v : Val) → p v ≡ true → p v0 ≡ false → p v1 ≡ false → p neither ≡ false → ⊥
        off v0 h e f g = clash h e
        off v1 h e f g = clash h f
        off neither h e f g = clash h g
