-- What is added to a line part by part. Assumes nothing.
use Prim.Native.Nat.{ℕ}
use mathlib.Core.Path.{◌≡◌, sym, ap, ◌∙◌}
use mathlib.Core.List.{List, ◌++◌, append_assoc}
use native.Mathlib.Omega.{arith}
use lib.ListN.{length, length-append, take, drop}
use lib.Seq.{drop-drop}
use Rattle.report.specs.Parts.{Adds}
use Rattle.report.specs.declared.put.Line.{Line}

-- one part after another
infixl 20 ◌then◌
pub ◌then◌ : {old mid line : Line} {a b : List ℕ} → Adds old a mid → Adds mid b line → Adds old (a ++ b) line
◌then◌ {old} {mid} {line} {a} {b} p q =
    let past : (l : List ℕ) → drop line.length l ≡ drop (length b) (drop mid.length l) = λ l. rw q.ends (sym (drop-drop (length b) mid.length l)) in
    record {
      same = q.same ∙ p.same;
      keeps = q.keeps ∙ p.keeps;
      ends = omega (arith, length-append a b);
      front = q.front ∙ ap (λ x. x ++ b) p.front ∙ append_assoc (take old.length old.out.now) a b;
      back = q.back ∙ past mid.out.now ∙ ap (drop (length b)) p.back ∙ sym (past old.out.now);
    }

-- the same bytes, said in another way
pub means : {old line : Line} {a b : List ℕ} → Adds old a line → a ≡ b → Adds old b line
means p e = rw e at p
