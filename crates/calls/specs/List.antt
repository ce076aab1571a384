-- One event of a run whose host records are lent. Document 01, "Frames and run files": "Host records stand in one list, a record per host".
use Rattle.std.specs.Prelude.{ℕ, ◌+◌, ◌/◌, ◌%◌, ◌≡◌, cond, ◌||◌, List, ◌∷◌, ltb, eqb, length}
use Rattle.answer.specs.Answer.{Answer, refused, accepted, Guard, ◌when◌, guarded, going_on}
use Rattle.frame.specs.Frame.{packing}
use Rattle.quorum.specs.World.{world_guards}
use Rattle.quorum.specs.declared.World.{World}
use Rattle.host.specs.declared.Host.{Host}
use Rattle.turn.specs.Applying.{Turn, idle, quiet, broadcast}
use Rattle.run.specs.Starting.{fresh_run}
use Rattle.run.specs.Playing.{host_in, happens, settled}
use Rattle.calls.specs.Flat.{given_or}
use Rattle.calls.specs.declared.list.Stepped.{Stepped}

-- ---- The step

-- 13: "lent memory shorter than the fixed length", which is 32 records and 14,336 words; 2 and 3 next
abbrev pub list_guards : List Host → List ℕ → World → List Guard
list_guards hosts table w = (13 when ltb (length hosts) 32 || ltb (length table) 14336) ∷ world_guards w

-- an event's answer, with the records after it as they are settled in a run of these, and the table
abbrev pub listed : List Host → World → List ℕ → Answer Turn × List ℕ → Answer Turn × (List Host × List ℕ)
listed hosts w event (answer, after) = (answer, ((settled (fresh_run w hosts) (host_in event) answer).hosts, after))

-- past these guards what happens in such a run, by the definition that `play` plays; what was refused leaves all as it was
unfoldable pub listing : List Host → List ℕ → World → List ℕ → Answer Turn × (List Host × List ℕ)
listing hosts table w event =
    going_on (hosts, table) (guarded (list_guards hosts table w) tt) (listed hosts w event (happens (fresh_run w hosts) table event))

-- ---- The answer's number

-- a refusal's number, below 256; else 65,536 for an idle turn or an accepted delivery, twice that for a move that broadcasts nothing, and
-- three times that and the packed frame for one that broadcasts
abbrev pub code : Answer Turn → ℕ
code (refused k) = k
code (accepted idle) = 65536
code (accepted (quiet h)) = 131072
code (accepted (broadcast h f)) = 196608 + given_or 0 (packing f)

abbrev pub coded : Answer Turn × (List Host × List ℕ) → ℕ × (List Host × List ℕ)
coded (answer, after) = (code answer, after)

-- the promise of `coircord_step`
abbrev pub StepsList : List Host → List ℕ → World → List ℕ → ℕ → List Host → List ℕ → Type 0
StepsList hosts table world event number hosts' table' =
    ◌≡◌ {A = ℕ × (List Host × List ℕ)} (number, (hosts', table')) (coded (listing hosts table world event))

-- ---- What a number says

-- the answer that has this number, if one has
unfoldable pub answer_of : ℕ → Stepped
answer_of number =
    cond (ltb number 256) (Stepped.Refused number)
    (cond (eqb number 65536) Stepped.Idle
    (cond (eqb number 131072) Stepped.Quiet
    (cond (eqb (number / 65536) 3) (Stepped.Broadcast (number % 65536)) Stepped.Unknown)))

-- the promise of `answer_of`
abbrev pub Answers : ℕ → Stepped → Type 0
Answers number answer = answer ≡ answer_of number
