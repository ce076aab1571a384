-- What one bit more changes of a host's words. Assumes nothing.
use Prim.Native.Nat.{ℕ, ◌≤◌, ◌<◌}
use mathlib.Core.Path.{◌≡◌, refl, sym, ap, ◌∙◌}
use mathlib.Core.Bool.{true}
use mathlib.Core.List.{List}
use native.Mathlib.Decide.{dec_lt, ℕ_discrete}
use native.Mathlib.Omega.{arith}
use lib.ListN.{length, get_or, length-set}
use lib.Seq.{set_out, get_or-set_same, get_or-set_other}
use Rattle.quorum.specs.Sets.{member, add}
use Rattle.quorum.proofs.Adding.{added, added_other}
use Rattle.host.specs.Words.{put}

-- there are as many words as before
pub put_length : (words : List ℕ) (at j : ℕ) → length (put words at j) ≡ length words
unfolding put
put_length words at j = length-set words at (add (get_or words at 0) j)

-- where there is the word, it has the bit
pub put_same : (words : List ℕ) (at j : ℕ) → at < length words → get_or (put words at j) at 0 ≡ add (get_or words at 0) j
unfolding put
put_same words at j l = get_or-set_same words at (add (get_or words at 0) j) 0 l

put_out : (words : List ℕ) (at j : ℕ) → length words ≤ at → put words at j ≡ words
unfolding put
put_out words at j l = set_out words at (add (get_or words at 0) j) l

-- the other words are as they were
pub put_elsewhere : (words : List ℕ) (at j k : ℕ) → (k ≡ at → ⊥) → get_or (put words at j) k 0 ≡ get_or words k 0
unfolding put
put_elsewhere words at j k n = get_or-set_other words at k (add (get_or words at 0) j) 0 n

within : (words : List ℕ) (at j i : ℕ) → (j ≡ i → ⊥) → Dec (at < length words) → member (get_or (put words at j) at 0) i ≡ member (get_or words at 0) i
within words at j i n (yes l) = rw (put_same words at j l) (added_other (get_or words at 0) j i n)
within words at j i n (no g) = rw (put_out words at j (omega arith)) refl

-- so is every other bit
pub put_others : (words : List ℕ) (at j k i : ℕ) → ((k ≡ at) × (i ≡ j) → ⊥) → member (get_or (put words at j) k 0) i ≡ member (get_or words k 0) i
put_others words at j k i n = go (ℕ_discrete k at)
  where
    go : Dec (k ≡ at) → member (get_or (put words at j) k 0) i ≡ member (get_or words k 0) i
    go (yes e) = rw e (within words at j i (λ q. n (e, sym q)) (dec_lt at (length words)))
    go (no d) = ap (λ (x : ℕ). member x i) (put_elsewhere words at j k d)

-- what was set stays set
pub put_grows : (words : List ℕ) (at j k i : ℕ) → member (get_or words k 0) i ≡ true → member (get_or (put words at j) k 0) i ≡ true
put_grows words at j k i e = go (ℕ_discrete k at) (ℕ_discrete i j) (dec_lt at (length words))
  where
    go : Dec (k ≡ at) → Dec (i ≡ j) → Dec (at < length words) → member (get_or (put words at j) k 0) i ≡ true
    go (no d) q l = put_others words at j k i (λ (a, b). d a) ∙ e
    go (yes d) (no q) l = put_others words at j k i (λ (a, b). q b) ∙ e
    go (yes d) (yes q) (yes l) = rw (d, q, put_same words at j l) (added (get_or words at 0) j)
    go (yes d) (yes q) (no g) = rw (put_out words at j (omega arith)) e
