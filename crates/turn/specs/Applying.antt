-- What a move does: what the turn answers, the record with it, and the words. Document 01, "What a host does".
use Rattle.std.specs.Prelude.{ℕ, ◌+◌, ◌/◌, ◌%◌, ◌<◌, Bool, true, false, List}
use Rattle.frame.specs.declared.Frame.{Frame}
use Rattle.host.specs.Words.{VAL, AUX, sent_bit, admit_bit, begun_bit, mark}
use Rattle.host.specs.Record.{sent_one}
use Rattle.view.specs.View.{after_view}
use Rattle.host.specs.declared.Host.{Host}
use Rattle.turn.specs.declared.choosing.Move.{Move}

-- a turn that is not refused: idle, or the record after a move that sends nothing, or after one that broadcasts a frame
pub data Turn : Type 0 where
  idle : Turn
  quiet : Host → Turn
  broadcast : Host → Frame → Turn

-- the frame of a kind and a value in instance i, from host `me`
abbrev pub frame_at : ℕ → ℕ → ℕ → ℕ → Frame
frame_at kind i v me = record {
  kind = kind;
  round = i / 4 + 1;
  phase = i / 2 % 2 + 1;
  stage = i % 2;
  value = v;
  sender = me;
}

-- whether a move broadcasts
abbrev pub sends : Move → Bool
sends Move.Idle = false
sends (Move.Echo i v) = true
sends (Move.Admit i v) = false
sends (Move.BeginUnsent i) = false
sends (Move.Begin i v) = true
sends (Move.Aux i v) = true
sends (Move.View view) = false

-- what the turn answers, with the record after the move
abbrev pub answered : Host → ℕ → Move → Turn
answered h me Move.Idle = idle
-- Echo: "It does": broadcasts VAL v
answered h me (Move.Echo i v) = broadcast (sent_one h) (frame_at VAL i v me)
answered h me (Move.Admit i v) = quiet h
answered h me (Move.BeginUnsent i) = quiet h
-- "begin, and broadcast VAL of the own value"
answered h me (Move.Begin i v) = broadcast (sent_one h) (frame_at VAL i v me)
-- "broadcast AUX"
answered h me (Move.Aux i v) = broadcast (sent_one h) (frame_at AUX i v me)
-- "After the view"
answered h me (Move.View view) = quiet (after_view h view)

-- what it marks
abbrev pub marked_by : List ℕ → Move → List ℕ
marked_by words Move.Idle = words
-- broadcast as VAL
marked_by words (Move.Echo i v) = mark words i (sent_bit VAL v)
-- Admit: "It is now"
marked_by words (Move.Admit i v) = mark words i (admit_bit v)
-- "begin", where an echo had broadcast the own value, and where none had
marked_by words (Move.BeginUnsent i) = mark words i begun_bit
marked_by words (Move.Begin i v) = mark (mark words i begun_bit) i (sent_bit VAL v)
-- sent as AUX
marked_by words (Move.Aux i v) = mark words i (sent_bit AUX v)
marked_by words (Move.View view) = words

abbrev pub applied : List ℕ → Host → ℕ → Move → Turn × List ℕ
applied words h me m = (answered h me m, marked_by words m)

-- a move's instance is one of the 64, its value one of the three: this serves the crate, and the promise does not name it
abbrev pub InRange : Move → Type 0
InRange Move.Idle = Unit
InRange (Move.Echo i v) = (i < 64) × (v < 3)
InRange (Move.Admit i v) = (i < 64) × (v < 3)
InRange (Move.BeginUnsent i) = i < 64
InRange (Move.Begin i v) = (i < 64) × (v < 3)
InRange (Move.Aux i v) = (i < 64) × (v < 3)
InRange (Move.View view) = Unit
