-- The run table: "Sender sets stand apart" (document 01, "Frames and run files"), 448 words to a host, one host after the other; and one
-- host's delivery and turn on its part of it. Every other host's words are as they were, since the call is not lent them.
use Rattle.std.specs.Prelude.{ℕ, ◌+◌, ◌*◌, Bool, false, List, ◌++◌, take, drop}
use Rattle.answer.specs.Answer.{Answer, refused, accepted}
use Rattle.frame.specs.Frame.{unpacking}
use Rattle.frame.specs.declared.Frame.{Frame}
use Rattle.quorum.specs.declared.World.{World}
use Rattle.host.specs.declared.Host.{Host}
use Rattle.delivery.specs.Delivery.{delivering_word, asking}
use Rattle.turn.specs.Applying.{Turn, idle}
use Rattle.turn.specs.Turning.{turning}
use Rattle.file.specs.declared.Event.{Event}

-- the words of host i
unfoldable pub part_of : List ℕ → ℕ → List ℕ
part_of table i = take 448 (drop (448 * i) table)

-- the table with other words for host i
unfoldable pub with_part : List ℕ → ℕ → List ℕ → List ℕ
with_part table i part = take (448 * i) table ++ (part ++ drop (448 * i + 448) table)

-- what a call on host i's words answers, and the table after it
abbrev pub on_part : {A : Type 0} → List ℕ → ℕ → Answer A × List ℕ → Answer A × List ℕ
on_part table i (answer, part) = (answer, with_part table i part)

-- ---- A delivery

-- what `may_send` says; where it refuses, so does the delivery, before it asks
abbrev pub agreed : Answer Bool → Bool
agreed (accepted b) = b
agreed (refused k) = false

-- 11 asks the sender's own record and words: whether it lies, or has broadcast this frame
abbrev pub said_by : List ℕ → Host → World → Answer Frame → Bool
said_by table sender w (accepted f) = agreed (asking (part_of table f.sender) sender w f)
said_by table sender w (refused k) = false

unfoldable pub said : List ℕ → Host → World → ℕ → Bool
said table sender w word = said_by table sender w (unpacking word)

-- "Delivery alone sends nothing", and changes no record: accepted, it is as a turn that is idle
abbrev pub passed : Answer Unit → Answer Turn
passed (accepted u) = accepted idle
passed (refused k) = refused k

abbrev pub passed_on : Answer Unit × List ℕ → Answer Turn × List ℕ
passed_on (answer, part) = (passed answer, part)

unfoldable pub delivering_at : List ℕ → Host → Host → World → Event → Answer Turn × List ℕ
delivering_at table h sender w e =
    on_part table e.host (passed_on (delivering_word (part_of table e.host) h w e.word (said table sender w e.word)))

-- ---- A turn

unfoldable pub turning_at : List ℕ → Host → World → Event → Answer Turn × List ℕ
turning_at table h w e = on_part table e.host (turning (part_of table e.host) h w e.host)
