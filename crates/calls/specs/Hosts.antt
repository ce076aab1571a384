-- The calls on one host for other languages.
use Rattle.std.specs.Prelude.{ℕ, ◌≡◌, Bool, false, List}
use Rattle.answer.specs.Answer.{Answer}
use Rattle.frame.specs.declared.Frame.{Frame}
use Rattle.quorum.specs.declared.World.{World}
use Rattle.host.specs.declared.Host.{Host}
use Rattle.delivery.specs.Delivery.{delivering, delivering_word, asking}
use Rattle.turn.specs.Applying.{Turn, idle, quiet, broadcast}
use Rattle.turn.specs.Turning.{turning}
use Rattle.run.specs.Playing.{record_after}
use Rattle.calls.specs.Flat.{flat, flat_lent, giving}
use Rattle.calls.specs.Frames.{no_frame}
use Rattle.calls.specs.declared.hosts.SaidAnswer.{SaidAnswer}
use Rattle.calls.specs.declared.hosts.TurnAnswer.{TurnAnswer}

-- ---- Deliveries

-- the promise of `coircord_deliver`
abbrev pub DeliversFlat : List ℕ → Host → World → Frame → Bool → ℕ → List ℕ → Type 0
DeliversFlat before host world frame said number after =
    ◌≡◌ {A = (ℕ × Unit) × List ℕ} ((number, tt), after) (flat_lent tt (delivering before host world frame said))

-- the promise of `coircord_deliver_word`
abbrev pub DeliversWordFlat : List ℕ → Host → World → ℕ → Bool → ℕ → List ℕ → Type 0
DeliversWordFlat before host world word said number after =
    ◌≡◌ {A = (ℕ × Unit) × List ℕ} ((number, tt), after) (flat_lent tt (delivering_word before host world word said))

-- the promise of `coircord_may_send`
abbrev pub AsksFlat : List ℕ → Host → World → Frame → SaidAnswer → Type 0
AsksFlat words host world frame answer = ◌≡◌ {A = ℕ × Bool} (answer.refused, answer.said) (flat false (asking words host world frame))

-- ---- Turns

-- 0 idle, 1 a move that broadcasts nothing, 2 one that broadcasts
abbrev pub move_of : Turn → ℕ
move_of idle = 0
move_of (quiet h) = 1
move_of (broadcast h f) = 2

abbrev pub frame_of_turn : Turn → Frame
frame_of_turn idle = no_frame
frame_of_turn (quiet h) = no_frame
frame_of_turn (broadcast h f) = f

-- the move, the record after it and the frame that it broadcasts
abbrev pub turn_parts : Host → Turn → ℕ × Host × Frame
turn_parts h turn = (move_of turn, record_after h turn, frame_of_turn turn)

-- a refused turn has no move, and the record is as it was
abbrev pub flat_turn : Host → Answer Turn × List ℕ → (ℕ × (ℕ × Host × Frame)) × List ℕ
flat_turn h (answer, after) = flat_lent (0, h, no_frame) (giving (turn_parts h) answer, after)

-- the promise of `coircord_turn`
abbrev pub TurnsFlat : List ℕ → Host → World → ℕ → TurnAnswer → List ℕ → Type 0
TurnsFlat before host world me answer after =
    ◌≡◌ {A = (ℕ × (ℕ × Host × Frame)) × List ℕ} ((answer.refused, (answer.moved, answer.host, answer.frame)), after)
    (flat_turn host (turning before host world me))
