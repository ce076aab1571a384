-- A read puts the input's next bytes behind those that are there, and one that fails leaves these and the input. Assumes nothing.
use Rattle.std.proofs.Common.{◌≡◌, ℕ, ◌+◌, ◌-◌, ◌≤◌, List, ◌++◌, rules, length, take, sym, ap, ◌∙◌, subst, le_refl, drop_at, length-take-le}
use Rattle.std.proofs.lemmas.Slice.{take-put_mid_below}
use Rattle.std.specs.Io.KnownBytes.{Consumes}
use Rattle.std.proofs.KnownBytes.{Consumes-trans, Consumes-kept}
use borrow.Rule.Slice.PartMut.{put_mid, post_of}
use lib.Seq.{take-add, take-append-le}
use Rattle.coircord.proofs.input.Input.read.Goals as goal
use Rattle.coircord.proofs.input.Input.read.Goals.{in-Ok, in-Err+else-ne}

-- n of the bytes that were put at a stand behind those before a
filled : (a k n : ℕ) (old put : List ℕ) → a ≤ length old → n ≤ length put → take (a + n) (put_mid a k old put) ≡ take a old ++ take n put
filled a k n old put within fits =
    let after = post_of a k old in
    take-add a n (put_mid a k old put)
    ∙ rw (take-put_mid_below a k old put a (le_refl a) within, drop_at (take a old) (put ++ after) a (length-take-le a old within)) (ap (λ l. take a old ++ l) (take-append-le n put after fits))

pub loop-preserved : goal.loop-preserved
loop-preserved g c =
    let old = c.loop.self in
    let now = c.match-read.self in
    let room = c.min-end.result - old.got in
    let buffer = put_mid old.got room old.buffer c.read.new.buf in
    elim c.match-read.branch [
      | in-Ok w ↦
          let n = w.in-Ok.more in
          let from-is : now.from ≡ c.read.new.self = ap (λ s. s.from) w.self-is in
          let buffer-is : now.buffer ≡ buffer = ap (λ s. s.buffer) w.self-is in
          let got-is : now.got ≡ old.got + n = ap (λ s. s.got) w.self-is in
          let put = filled old.got room n old.buffer c.read.new.buf old.within w.in-Ok.ensures.bound.0 in
          let read = Consumes-trans _ _ _ _ _ c.loop.invariant.bytes w.in-Ok.ensures.bytes.0 in
          rw (from-is, buffer-is, got-is) record { most = search rules; bytes = subst (Consumes _ _) (sym put) read }
      | in-Err+else-ne w ↦
          let from-is : now.from ≡ c.read.new.self = ap (λ s. s.from) w.self-is in
          let buffer-is : now.buffer ≡ buffer = ap (λ s. s.buffer) w.self-is in
          let got-is : now.got ≡ old.got = ap (λ s. s.got) w.self-is in
          let kept = take-put_mid_below old.got room old.buffer c.read.new.buf old.got (le_refl _) old.within in
          let read = Consumes-kept _ _ _ _ c.loop.invariant.bytes w.in-Err.ensures.bytes in
          rw (from-is, buffer-is, got-is) record { most = search rules; bytes = subst (Consumes _ _) (sym kept) read }
    ]
