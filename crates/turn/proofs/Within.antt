-- A chosen move speaks of one of the 64 instances and one of the three values. Assumes nothing.
use Prim.Native.Nat.{ℕ, ◌<◌}
use mathlib.Core.Path.{◌≡◌, refl}
use mathlib.Core.Bool.{not}
use mathlib.Core.List.{List}
use native.Mathlib.Omega.{arith}
use lib.Dec.{leb}
use Rattle.answer.proofs.Tests.{either}
use Rattle.quorum.specs.Sets.{size}
use Rattle.quorum.specs.declared.Thresholds.{Thresholds}
use Rattle.host.specs.Words.{values, VAL, has_sent, admitted, begun}
use Rattle.host.specs.Record.{finished, Valid}
use Rattle.host.specs.declared.Host.{Host}
use Rattle.std.specs.Prelude.{Option, Some, None}
use Rattle.host.proofs.Firsts.{first_at}
use Rattle.host.proofs.Ranges.{in_64}
use Rattle.turn.specs.Moves.{echo_due, admit_due, search, beginning, aux_sent, aux_choice, answering, viewers, viewing, proceeding, or_next, current, chosen}
use Rattle.turn.specs.Applying.{InRange}
use Rattle.turn.specs.declared.choosing.Move.{Move}
use Rattle.turn.proofs.Searches.{search_at}

answer_in : (i : ℕ) (q : Option ℕ) → i < 64 → ((v : ℕ) → q ≡ Some v → v < 3) → InRange (answering i q)
answer_in i (Some v) l f = (l, f v refl)
answer_in i None l f = tt

choice_in : (words : List ℕ) (i v : ℕ) → aux_choice words i ≡ Some v → v < 3
choice_in words i v e = let (l, _, _) = first_at (admitted words i) (values i) v e in omega arith

proceed_in : (words : List ℕ) (h : Host) (need i : ℕ) → Valid h → i < 64 → InRange (proceeding words h need i)
unfolding proceeding beginning viewing
proceed_in words h need i d l =
    either InRange (finished h) _ _ (λ _. tt)
    (λ _. either InRange (not (begun words i)) _ _ (λ _. either InRange (has_sent words VAL i h.own) _ _ (λ _. l) (λ _. (l, d.own)))
    (λ _. either InRange (not (aux_sent words i)) _ _ (λ _. answer_in i (aux_choice words i) l (choice_in words i))
    (λ _. either InRange (leb need (size (viewers words i))) _ Move.Idle (λ _. tt) (λ _. tt))))

next_in : (q : Option (ℕ × ℕ)) (move : ℕ → ℕ → Move) (m : Move) → ((i v : ℕ) → q ≡ Some (i, v) → InRange (move i v)) → InRange m → InRange (or_next q move m)
next_in (Some (i, v)) move m f g = f i v refl
next_in None move m f g = g

pub chosen_in : (words : List ℕ) (h : Host) (s : Thresholds) → Valid h → InRange (chosen words h s)
unfolding chosen
chosen_in words h s d =
    next_in (search (echo_due words s)) Move.Echo _ (λ i v e. let (a, b, _, _) = search_at (echo_due words s) i v e in (a, b))
    (next_in (search (admit_due words s)) Move.Admit _ (λ i v e. let (a, b, _, _) = search_at (admit_due words s) i v e in (a, b))
    (proceed_in words h s.view (current h) d (in_64 h d)))
