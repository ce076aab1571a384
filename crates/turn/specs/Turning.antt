-- The call of a turn: what it answers and leaves, for every content of what it is lent. Document 01, "What a host does" (Turn) and "Refusal
-- numbers".
use Rattle.std.specs.Prelude.{ℕ, ◌≡◌, ◌&&◌, List, [], ◌∷◌, ◌++◌, leb, eqb, length, Result, Ok, Err}
use Rattle.answer.specs.Answer.{Answer, refused, accepted, Guard, ◌when◌, guarded, lent, number}
use Rattle.answer.specs.declared.Refusal.{Refusal}
use Rattle.quorum.specs.World.{thresholds_of}
use Rattle.quorum.specs.declared.World.{World}
use Rattle.quorum.specs.declared.Thresholds.{Thresholds}
use Rattle.host.specs.Record.{lying, broken}
use Rattle.host.specs.Calls.{ready_guards}
use Rattle.host.specs.declared.Host.{Host}
use Rattle.turn.specs.Moves.{chosen}
use Rattle.turn.specs.Applying.{Turn, idle, quiet, broadcast, sends, applied}
use Rattle.turn.specs.declared.Turned.{Turned}

-- 13: a record "with its sent count at the upper end where the turn would broadcast"
abbrev pub full_guard : List ℕ → Host → Thresholds → Guard
full_guard words h s = 13 when sends (chosen words h s) && eqb h.sent 224

-- 5, 6, 10; and that 13, of a turn that nothing else refuses
abbrev pub own_guards : List ℕ → Host → Thresholds → ℕ → ℕ → List Guard
own_guards words h s n me = (5 when leb n me) ∷ (6 when lying h) ∷ (10 when broken h) ∷ full_guard words h s ∷ []

-- "13 comes first in any call", 2 and 3 next
abbrev pub turn_guards : List ℕ → Host → World → ℕ → List Guard
turn_guards words h w me = ready_guards (length words) h w ++ own_guards words h (thresholds_of w) w.n me

-- the chosen move, made
abbrev pub made : List ℕ → Host → Thresholds → ℕ → Turn × List ℕ
made words h s me = applied words h me (chosen words h s)

unfoldable pub turning : List ℕ → Host → World → ℕ → Answer Turn × List ℕ
turning words h w me = lent words (guarded (turn_guards words h w me) (made words h (thresholds_of w) me))

-- the same of a host whose thresholds are known; this definition serves the crate, and the promise does not name it
unfoldable pub taking : List ℕ → Host → Thresholds → ℕ → ℕ → Answer Turn × List ℕ
taking words h s n me = lent words (guarded (own_guards words h s n me) (made words h s me))

-- the turn that the enum is, and the answer that a call's result is: document 01's number, or the turn
abbrev pub turn_of : Turned → Turn
turn_of Turned.Idle = idle
turn_of (Turned.Quiet h) = quiet h
turn_of (Turned.Broadcast h f) = broadcast h f

abbrev pub turned_says : Result Turned Refusal → Answer Turn
turned_says (Ok t) = accepted (turn_of t)
turned_says (Err r) = refused (number r)

-- the promise of `turn`
abbrev pub Turns : List ℕ → Host → World → ℕ → Result Turned Refusal → List ℕ → Type 0
Turns before host world me result after = ◌≡◌ {A = Answer Turn × List ℕ} (turned_says result, after) (turning before host world me)
