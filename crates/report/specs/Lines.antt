-- The lines that are printed, and the calls that write them. Document 01, "What the program prints" and "Refusal numbers".
use Rattle.std.specs.Prelude.{ℕ, ◌≡◌, Bool, cond, ◌||◌, List, [], ◌∷◌, ◌++◌, ltb, leb, eqb, length, drop, Result}
use Rattle.answer.specs.Answer.{Answer, Guard, ◌when◌, guarded, lent, says}
use Rattle.answer.specs.declared.Refusal.{Refusal}
use Rattle.quorum.specs.World.{world_guards}
use Rattle.quorum.specs.declared.World.{World}
use Rattle.host.specs.Record.{finished, broken, lying, bad_host}
use Rattle.host.specs.declared.Host.{Host}
use Rattle.report.specs.Text.{text, decimal}

-- ---- The four lines, each with its newline

-- "For a refused header or record: "refused C""
unfoldable pub refusal_line : ℕ → List ℕ
refusal_line number = text "refused " ++ decimal number ++ text "\n"

-- "one line per refused event, in order (events count from 1 ..)": "event 5 refused 11"
unfoldable pub event_line : ℕ → ℕ → List ℕ
event_line event number = text "event " ++ decimal event ++ text " refused " ++ decimal number ++ text "\n"

-- "then the totals": "events 5 refused 1"
unfoldable pub totals_line : ℕ → ℕ → List ℕ
totals_line events refusals = text "events " ++ decimal events ++ text " refused " ++ decimal refusals ++ text "\n"

-- "standing (honest, finished, broken ..)"
abbrev pub standing_word : Host → List ℕ
standing_word h = cond (finished h) (text "finished") (cond (broken h) (text "broken") (text "honest"))

-- "decision or "-"": 2 is none
abbrev pub decision_word : Host → List ℕ
decision_word h = cond (eqb h.decision 2) (text "-") (decimal h.decision)

-- "round, phase, stage, estimate, decision or "-", frames broadcast"
abbrev pub fields : Host → List ℕ
fields h =
    text " round " ++ decimal h.round ++ text " phase " ++ decimal h.phase ++ text " stage " ++ decimal h.stage
    ++ text " est " ++ decimal h.est ++ text " decided " ++ decision_word h ++ text " sent " ++ decimal h.sent

-- "Host line: number; standing (..; for a liar the line ends at "lying"); round, phase, stage, estimate, decision or "-", frames broadcast."
unfoldable pub host_line : ℕ → Host → List ℕ
host_line me h = text "host " ++ decimal me ++ text " " ++ cond (lying h) (text "lying") (standing_word h ++ fields h) ++ text "\n"

-- ---- Guards

-- 13: "lent memory shorter than the fixed length that docs/ states for that call": of all four calls it is 80 bytes
abbrev pub short : List ℕ → Bool
short before = ltb (length before) 80

abbrev pub room_guards : List ℕ → List Guard
room_guards before = (13 when short before) ∷ []

-- the host line: 13 also for "a lent host record with a field outside its range ..", then "2, then 3", then 5: "host .. number ≥ n"
abbrev pub host_guards : List ℕ → ℕ → Host → World → List Guard
host_guards before me h w = (13 when short before || bad_host h) ∷ world_guards w ++ (5 when leb w.n me) ∷ []

-- ---- The calls

-- a line written into lent bytes: it stands at their start, what lies behind it is as it was, and the answer is its length
unfoldable pub writing : List ℕ → List Guard → List ℕ → Answer ℕ × List ℕ
writing before guards line = lent before (guarded guards (length line, line ++ drop (length line) before))

-- ---- Promises

-- the promise of `refusal_line`
abbrev pub WritesRefusal : List ℕ → ℕ → Result ℕ Refusal → List ℕ → Type 0
WritesRefusal before number answer after =
    ◌≡◌ {A = Answer ℕ × List ℕ} (says answer, after) (writing before (room_guards before) (refusal_line number))

-- the promise of `event_line`
abbrev pub WritesEvent : List ℕ → ℕ → ℕ → Result ℕ Refusal → List ℕ → Type 0
WritesEvent before event number answer after =
    ◌≡◌ {A = Answer ℕ × List ℕ} (says answer, after) (writing before (room_guards before) (event_line event number))

-- the promise of `host_line`
abbrev pub WritesHost : List ℕ → ℕ → Host → World → Result ℕ Refusal → List ℕ → Type 0
WritesHost before me host world answer after =
    ◌≡◌ {A = Answer ℕ × List ℕ} (says answer, after) (writing before (host_guards before me host world) (host_line me host))

-- the promise of `totals_line`
abbrev pub WritesTotals : List ℕ → ℕ → ℕ → Result ℕ Refusal → List ℕ → Type 0
WritesTotals before events refusals answer after =
    ◌≡◌ {A = Answer ℕ × List ℕ} (says answer, after) (writing before (room_guards before) (totals_line events refusals))
