-- The calls of a delivery: what each answers and leaves, for every content of what it is lent. Document 01, "What a host does" (Delivery) and
-- "Refusal numbers".
use Rattle.std.specs.Prelude.{ℕ, ◌≡◌, Bool, not, List, [], ◌∷◌, ◌++◌, leb, length, Result}
use Rattle.answer.specs.Answer.{Answer, refused, accepted, Guard, ◌when◌, past, guarded, beside, lent, says}
use Rattle.answer.specs.declared.Refusal.{Refusal}
use Rattle.frame.specs.Frame.{unpacking, frame_guards}
use Rattle.frame.specs.declared.Frame.{Frame}
use Rattle.quorum.specs.declared.World.{World}
use Rattle.host.specs.Record.{lying, broken}
use Rattle.host.specs.Calls.{ready_guards}
use Rattle.host.specs.declared.Host.{Host}
use Rattle.delivery.specs.Recording.{Recorded, New, Repeat, Held, recording, may_send}

-- ---- Guards

-- 13, 2, 3, then 6: "the receiver .. is a liar"
abbrev pub receiver_guards : ℕ → Host → World → List Guard
receiver_guards words h w = ready_guards words h w ++ (6 when lying h) ∷ []

-- "7, 8, 9, 5 (sender)" without the 7 of a packed frame: what no frame can say, then a sender that is no host of this world
abbrev pub sender_guards : World → Frame → List Guard
sender_guards w f = frame_guards f ++ (5 when leb w.n f.sender) ∷ []

-- "10, 11, 12": 12 is what recording finds
abbrev pub hearing_guards : Host → Bool → List Guard
hearing_guards h said = (10 when broken h) ∷ (11 when not said) ∷ []

abbrev pub deliver_guards : List ℕ → Host → World → Frame → Bool → List Guard
deliver_guards words h w f said = receiver_guards (length words) h w ++ sender_guards w f ++ hearing_guards h said

-- ---- Delivery

-- 12: "another AUX of this sender is recorded in that instance"
abbrev pub outcome : Recorded → Answer Unit
outcome New = accepted tt
outcome Repeat = accepted tt
outcome (Held v) = refused 12

abbrev pub concluded : Recorded × List ℕ → Answer (Unit × List ℕ)
concluded p = beside (outcome p.0) p.1

unfoldable pub delivering : List ℕ → Host → World → Frame → Bool → Answer Unit × List ℕ
delivering words h w f said = lent words (past (deliver_guards words h w f said) (concluded (recording words f)))

-- "a frame that can't be read goes no further than its refusal"
abbrev pub after_unpacking : List ℕ → Host → World → Bool → Answer Frame → Answer Unit × List ℕ
after_unpacking words h w said (refused k) = lent words (past (receiver_guards (length words) h w) (refused k))
after_unpacking words h w said (accepted f) = delivering words h w f said

-- a packed frame: as above, with 7 before 8
unfoldable pub delivering_word : List ℕ → Host → World → ℕ → Bool → Answer Unit × List ℕ
delivering_word words h w word said = after_unpacking words h w said (unpacking word)

-- ---- What 11 asks

unfoldable pub asking : List ℕ → Host → World → Frame → Answer Bool
asking words h w f = guarded (ready_guards (length words) h w ++ sender_guards w f) (may_send words h f)

-- ---- Promises

-- the promise of `deliver`
abbrev pub Delivers : List ℕ → Host → World → Frame → Bool → Result Unit Refusal → List ℕ → Type 0
Delivers before host world frame said result after =
    ◌≡◌ {A = Answer Unit × List ℕ} (says result, after) (delivering before host world frame said)

-- the promise of `deliver_word`
abbrev pub DeliversWord : List ℕ → Host → World → ℕ → Bool → Result Unit Refusal → List ℕ → Type 0
DeliversWord before host world word said result after =
    ◌≡◌ {A = Answer Unit × List ℕ} (says result, after) (delivering_word before host world word said)

-- the promise of `may_send`
abbrev pub Asks : List ℕ → Host → World → Frame → Result Bool Refusal → Type 0
Asks words host world frame result = says result ≡ asking words host world frame
