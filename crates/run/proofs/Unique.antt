-- Each promise allows one result, and one content of what was lent. Assumes nothing.
use Prim.Native.Nat.{ℕ}
use mathlib.Core.Path.{◌≡◌, refl, sym, ap, ◌∙◌}
use mathlib.Core.List.{List}
use Rattle.std.specs.Prelude.{Option, Some, None, Result, Ok, Err}
use Rattle.answer.specs.Answer.{Answer, refused, accepted}
use Rattle.answer.specs.declared.Refusal.{Refusal}
use Rattle.answer.proofs.Once.{once, refusal, refusal-number, says_once, says_once_lent}
use Rattle.run.specs.Starting.{starting}
use Rattle.run.specs.Playing.{Ending, ended, stopped}
use Rattle.run.specs.Calls.{playing, ending_of, left_by, Starts, Rests, Opens, Plays}
use Rattle.run.specs.declared.Run.{Run}
use Rattle.run.specs.declared.Opened.{Opened}
use Rattle.run.specs.declared.Played.{Played}

pub starts_once : (bytes : List ℕ) (a b : Result Run Refusal) → Starts bytes a → Starts bytes b → a ≡ b
starts_once bytes = says_once (starting bytes)

pub rests_once : (bytes a b : List ℕ) → Rests bytes a → Rests bytes b → a ≡ b
rests_once bytes a b p q = p ∙ sym q

-- of the part it is said what it holds, as of `rest`: a content, not a place in memory
pub opens_once : (bytes : List ℕ) (a b : Opened) → Opens bytes a → Opens bytes b → (a.answer ≡ b.answer) × (a.rest.now ≡ b.rest.now)
opens_once bytes a b = says_once_lent _ a.answer b.answer a.rest.now b.rest.now

-- the result and the table that an answer of `play` tells of
told : Answer Ending × (Run × ℕ × List ℕ) → Result Played Refusal × List ℕ
told (refused k, (run, taken, table)) = (Err (refusal k), table)
told (accepted ended, (run, taken, table)) = (Ok (record { run = run; taken = taken; stop = None }), table)
told (accepted (stopped k), (run, taken, table)) = (Ok (record { run = run; taken = taken; stop = Some (refusal k) }), table)

ok : Run → ℕ → Option Refusal → Result Played Refusal
ok run taken stop = Ok (record { run = run; taken = taken; stop = stop })

told-ending : (run : Run) (taken : ℕ) (table : List ℕ) (s : Option Refusal) → told (accepted (ending_of s), (run, taken, table)) ≡ (ok run taken s, table)
unfolding told ok
told-ending run taken table None = refl
told-ending run taken table (Some r) = ap (λ (x : Refusal). (ok run taken (Some x), table)) (refusal-number r)

told-left : (run : Run) (z : Result Played Refusal × List ℕ) → told (left_by run z.0 z.1) ≡ z
unfolding told ok
told-left run (Err r, table) = ap (λ (x : Refusal). (Err x, table)) (refusal-number r)
told-left run (Ok p, table) = told-ending p.run p.taken table p.stop

pub plays_once : (run : Run) (table bytes : List ℕ) (a b : Result Played Refusal) (x y : List ℕ) → Plays run table bytes a x → Plays run table bytes b y
    → (a ≡ b) × (x ≡ y)
plays_once run table bytes a b x y p q =
    let same = once (λ (z : Result Played Refusal × List ℕ). left_by run z.0 z.1) told (told-left run) (playing run table bytes) (a, x) (b, y) p q in
    (ap (λ z. z.0) same, ap (λ z. z.1) same)
