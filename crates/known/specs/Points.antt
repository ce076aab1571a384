-- The known points with a star (document 01, "Known points"): the list of them, and what each says of the definitions.
use Rattle.std.specs.Prelude.{ℕ, ◌+◌, ◌*◌, ◌^◌, ◌≡◌, List, [], ◌∷◌, replicate, set}
use Rattle.answer.specs.Answer.{Answer, refused, accepted}
use Rattle.frame.specs.Frame.{unpacking}
use Rattle.frame.specs.declared.Frame.{Frame}
use Rattle.quorum.specs.World.{world_of, thresholds_of, checking}
use Rattle.quorum.specs.declared.Thresholds.{Thresholds}
use Rattle.host.specs.Words.{AUX, set_at, marks_at}
use Rattle.view.specs.View.{after_view}
use Rattle.host.specs.declared.Host.{Host}
use Rattle.turn.specs.Moves.{chosen}
use Rattle.turn.specs.declared.choosing.Move.{Move}

-- two numbers n and t, and the check's answer; a word, and its unpacking's answer;
-- n, t, the admitted values, the senders of AUX 0 and of AUX 1, and the move of a host that has sent its AUX;
-- an estimate, a view, and the decision and the estimate after it in stage 1 of phase 2, where nothing was decided
pub data Point : Type 0 where
  sizes : ℕ → ℕ → Answer Thresholds → Point
  word : ℕ → Answer Frame → Point
  aux : ℕ → ℕ → ℕ → ℕ → ℕ → Move → Point
  ends : ℕ → ℕ → ℕ → ℕ → Point

-- the words of a host that in the first instance has broadcast VAL 1, begun and sent AUX 1, with these values admitted (a set, as a word) and
-- these senders of AUX 0 and of AUX 1
abbrev pub heard_words : ℕ → ℕ → ℕ → List ℕ
heard_words values aux0 aux1 = set (set (set (replicate 448 0) (set_at AUX 0 0) aux0) (set_at AUX 0 1) aux1) (marks_at 0) (2 + 8 * values + 64 + 256)

-- a host at this place, with this own value and estimate
abbrev pub standing : ℕ → ℕ → ℕ → ℕ → Host
standing phase stage own est = record {
  round = 1;
  phase = phase;
  stage = stage;
  own = own;
  est = est;
  decision = 2;
  sent = 2;
  standing = 0;
  coins = 0;
}

abbrev pub Holds : Point → Type 0
Holds (sizes n t a) = checking (world_of n t) ≡ a
Holds (word w a) = unpacking w ≡ a
Holds (aux n t values aux0 aux1 m) = chosen (heard_words values aux0 aux1) (standing 1 0 1 1) (thresholds_of (world_of n t)) ≡ m
Holds (ends est view decision after) =
    ◌≡◌ {A = ℕ × ℕ} ((after_view (standing 2 1 2 est) view).decision, (after_view (standing 2 1 2 est) view).est) (decision, after)

-- echo, admit and view at these numbers of senders
abbrev pub at : ℕ → ℕ → ℕ → Answer Thresholds
at e a v = accepted (record { echo = e; admit = a; view = v })

-- kind, round, phase, stage, value, sender
abbrev pub holds : ℕ → ℕ → ℕ → ℕ → ℕ → ℕ → Answer Frame
holds k r p s v n = accepted (record { kind = k; round = r; phase = p; stage = s; value = v; sender = n })

-- the set of one value, or of one host, as a word
abbrev pub only : ℕ → ℕ
only j = 2 ^ j

unfoldable pub starred : List Point
starred =
    sizes 4 1 (at 2 3 3)
    ∷ sizes 3 1 (refused 3)
    ∷ sizes 32 10 (at 11 21 22)
    ∷ sizes 32 11 (refused 3)
    ∷ word 0x0220 (holds 0 1 1 0 1 0)
    ∷ word 0x43c3 (holds 1 1 2 1 2 3)
    ∷ word 0x2000 (holds 0 16 1 0 0 0)
    ∷ word 0x2200 (refused 8)
    ∷ word 0x0000 (refused 8)
    ∷ word 0x0240 (refused 9)
    ∷ word 0x8000 (refused 7)
    ∷ aux 4 1 (only 1) (only 2) (only 0 + only 1) Move.Idle
    ∷ aux 4 1 (only 1) (only 2) (only 0 + only 1 + only 3) (Move.View (only 1))
    ∷ aux 4 1 (only 0 + only 1) (only 2) (only 0 + only 1) (Move.View (only 0 + only 1))
    ∷ ends 0 (only 1) 1 1
    ∷ []

-- every point of a list
infixr 67 ◌and◌
pub data All (P : Point → Type 0) : List Point → Type 0 where
  none : All P []
  ◌and◌ : {p : Point} {ps : List Point} → P p → All P ps → All P (p ∷ ps)
