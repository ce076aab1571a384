-- Recording a frame, and what 11 asks of its sender. Document 01, "What a host does", Delivery: "adds the sender to the VAL set, or records its
-- AUX. A frame already recorded is accepted and changes nothing."
use Rattle.std.specs.Prelude.{ℕ, Bool, cond, ◌||◌, List, eqb, Option, Some, None}
use Rattle.frame.specs.declared.Frame.{Frame}
use Rattle.quorum.specs.Sets.{member}
use Rattle.host.specs.First.{first}
use Rattle.host.specs.Words.{instance, values, VAL, AUX, set_at, senders, has_sent, put}
use Rattle.host.specs.Record.{lying}
use Rattle.host.specs.declared.Host.{Host}

-- the instance that a frame speaks of
abbrev pub frame_instance : Frame → ℕ
frame_instance f = instance f.round f.phase f.stage

-- the set that a frame's sender is to join
abbrev pub frame_set : Frame → ℕ
frame_set f = set_at f.kind (frame_instance f) f.value

-- the AUX of the sender that is recorded in an instance, if any
unfoldable pub held_aux : List ℕ → ℕ → ℕ → Option ℕ
held_aux words i j = first (λ v. member (senders words AUX i v) j) (values i)

-- what stands in the way of recording a frame: of a VAL nothing, of an AUX another AUX of its sender
abbrev pub held_from : List ℕ → Frame → ℕ → Option ℕ
held_from words f i = cond (eqb f.kind VAL) None (held_aux words i f.sender)

-- what recording finds: the frame was not yet recorded, was recorded before, or another AUX of its sender, of this value, is held
pub data Recorded : Type 0 where
  New : Recorded
  Repeat : Recorded
  Held : ℕ → Recorded

-- "for each sender, its first AUX": the sender joins the set, unless it is in it, or an AUX of it is held
abbrev pub record_over : List ℕ → Frame → Option ℕ → Recorded × List ℕ
record_over words f (Some v) = (Held v, words)
record_over words f None = (New, put words (frame_set f) f.sender)

unfoldable pub recording : List ℕ → Frame → Recorded × List ℕ
recording words f =
    cond (member (senders words f.kind (frame_instance f) f.value) f.sender) (Repeat, words)
    (record_over words f (held_from words f (frame_instance f)))

-- 11: "sender is honest and has not broadcast this frame", turned round, of the sender's own words and record
unfoldable pub may_send : List ℕ → Host → Frame → Bool
may_send words h f = lying h || has_sent words f.kind (frame_instance f) f.value
