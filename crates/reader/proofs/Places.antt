-- Where a reader goes. Assumes nothing.
use Rattle.std.proofs.Common.{◌≡◌, ℕ, ◌+◌, ◌∙◌, List, length, drop, sym, ap, arith, length-drop}
use Rattle.std.proofs.lemmas.List.{drop-drop, drop_min}
use Rattle.std.specs.Prelude.{min}
use Rattle.reader.specs.Reader.{behind}

-- "events of three bytes": behind what stands at a place stand the bytes from there on but for three, so that going onward passes over none of them
-- and comes to none twice
pub onward_drops : (bytes : List ℕ) (at : ℕ) → drop (behind bytes at) bytes ≡ drop 3 (drop at bytes)
onward_drops bytes at =
    let taken = min 3 (length (drop at bytes)) in
    let there : behind bytes at ≡ at + taken = omega (arith, length-drop at bytes) in
    ap (λ k. drop k bytes) there ∙ sym (drop-drop taken at bytes) ∙ drop_min 3 (drop at bytes)
