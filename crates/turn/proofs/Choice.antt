-- Which move a turn chooses: that none is skipped, what each one chosen tells, and when there is none. Assumes nothing.
use Prim.Native.Nat.{ℕ, ◌+◌, ◌≤◌, ◌<◌}
use mathlib.Core.Path.{◌≡◌, refl, sym, ap}
use mathlib.Core.Bool.{Bool, true, false, cond, ◌&&◌, not, true≢false}
use mathlib.Core.List.{List}
use native.Mathlib.Omega.{arith}
use lib.Dec.{ltb, leb}
use borrow.Author.Tests.{ltb-true, leb-true, leb-false, lt-leb, not-true, not-false}
use Rattle.std.proofs.lemmas.Bool.{and_parts}
use Rattle.answer.proofs.Tests.{either}
use Rattle.quorum.specs.Sets.{member, size}
use Rattle.quorum.specs.declared.Thresholds.{Thresholds}
use Rattle.host.specs.First.{first}
use Rattle.host.specs.Words.{values, VAL, AUX, marks, has_sent, admitted, begun}
use Rattle.host.specs.Record.{finished}
use Rattle.turn.specs.Moves.{witnesses, due, echo_due, admit_due, search, or_next, current, chosen}
use Rattle.turn.specs.Moves.{beginning, aux_sent, aux_choice, answering, heard, viewers, view_of, viewing, proceeding}
use Rattle.host.specs.declared.Host.{Host}
use Rattle.std.specs.Prelude.{Option, Some, None, is_some}
use Rattle.turn.specs.declared.choosing.Move.{Move}
use Rattle.host.proofs.Firsts.{first_nowhere, first_none, first_at}
use Rattle.turn.proofs.Searches.{Foremost, NoneDue, search_at, search_nothing, search_none}

-- ---- Proceed

-- why a host that neither echoes nor admits does nothing in its current instance
pub data Waits (words : List ℕ) (h : Host) (need : ℕ) : Type 0 where
  finished_now : finished h ≡ true → Waits words h need
  nothing_admitted : begun words (current h) ≡ true → aux_sent words (current h) ≡ false
      → ((v : ℕ) → v < values (current h) → admitted words (current h) v ≡ false) → Waits words h need
  too_few : begun words (current h) ≡ true → aux_sent words (current h) ≡ true → size (viewers words (current h)) < need → Waits words h need

-- what a move tells that proceeding gave, by its kind
abbrev Gives : List ℕ → Host → ℕ → Move → Type 0
Gives words h need Move.Idle = Waits words h need
Gives words h need (Move.Echo i v) = ⊥
Gives words h need (Move.Admit i v) = ⊥
Gives words h need (Move.BeginUnsent i) = (i ≡ current h) × (begun words i ≡ false) × (has_sent words VAL i h.own ≡ true)
Gives words h need (Move.Begin i v) = (i ≡ current h) × (v ≡ h.own) × (begun words i ≡ false) × (has_sent words VAL i v ≡ false)
Gives words h need (Move.Aux i v) =
    (i ≡ current h) × (begun words i ≡ true) × (aux_sent words i ≡ false)
    × (v < values i) × (admitted words i v ≡ true) × ((u : ℕ) → u < v → admitted words i u ≡ false)
Gives words h need (Move.View view) =
    (begun words (current h) ≡ true) × (aux_sent words (current h) ≡ true) × (need ≤ size (viewers words (current h)))
    × (view ≡ view_of (heard words (current h) 0) (heard words (current h) 1) (heard words (current h) 2))

module _ (words : List ℕ) (h : Host) (need : ℕ) where
  answering_gives : begun words (current h) ≡ true → aux_sent words (current h) ≡ false
      → (q : Option ℕ) → aux_choice words (current h) ≡ q → Gives words h need (answering (current h) q)
  answering_gives g a (Some v) e =
      let (l, t, o) = first_at (admitted words (current h)) (values (current h)) v e in
      (refl, g, a, l, t, o)
  answering_gives g a None e = nothing_admitted g a (first_nowhere (admitted words (current h)) (values (current h)) e)

  viewing_gives : begun words (current h) ≡ true → aux_sent words (current h) ≡ true → Gives words h need (viewing words need (current h))
  unfolding viewing
  viewing_gives g a =
      either (Gives words h need) (leb need (size (viewers words (current h)))) _ _
      (λ l. (g, a, leb-true _ _ l, refl)) (λ l. too_few g a (leb-false _ _ l))

  beginning_gives : begun words (current h) ≡ false → Gives words h need (beginning words (current h) h.own)
  unfolding beginning
  beginning_gives g =
      either (Gives words h need) (has_sent words VAL (current h) h.own) _ _ (λ e. grind arith) (λ e. (refl, refl, g, e))

  proceeding_gives : Gives words h need (proceeding words h need (current h))
  unfolding proceeding
  proceeding_gives =
      either (Gives words h need) (finished h) _ _ (λ f. finished_now f)
      (λ f. either (Gives words h need) (not (begun words (current h))) _ _ (λ g. beginning_gives (not-true (begun words (current h)) g))
      (λ g. either (Gives words h need) (not (aux_sent words (current h))) _ _
      (λ a. answering_gives (not-false (begun words (current h)) g) (not-true (aux_sent words (current h)) a) (aux_choice words (current h)) refl)
      (λ a. viewing_gives (not-false (begun words (current h)) g) (not-false (aux_sent words (current h)) a))))

-- ---- The move

-- the first echo that is due; where there is none, the first admission; where there is none either, what proceeding gives
pub data Chosen (words : List ℕ) (h : Host) (s : Thresholds) (m : Move) : Type 0 where
  echoes : (i v : ℕ) → m ≡ Move.Echo i v → Foremost (echo_due words s) i v → Chosen words h s m
  admits : (i v : ℕ) → m ≡ Move.Admit i v → NoneDue (echo_due words s) → Foremost (admit_due words s) i v → Chosen words h s m
  proceeds : NoneDue (echo_due words s) → NoneDue (admit_due words s) → proceeding words h s.view (current h) ≡ m → Chosen words h s m

module _ (words : List ℕ) (h : Host) (s : Thresholds) (m : Move) where
  admit_is : NoneDue (echo_due words s) → (q : Option (ℕ × ℕ)) → search (admit_due words s) ≡ q
      → or_next q Move.Admit (proceeding words h s.view (current h)) ≡ m → Chosen words h s m
  admit_is n (Some (i, v)) f e = admits i v (sym e) n (search_at (admit_due words s) i v f)
  admit_is n None f e = proceeds n (search_nothing (admit_due words s) f) e

  echo_is : (q : Option (ℕ × ℕ)) → search (echo_due words s) ≡ q
      → or_next q Move.Echo (or_next (search (admit_due words s)) Move.Admit (proceeding words h s.view (current h))) ≡ m → Chosen words h s m
  echo_is (Some (i, v)) f e = echoes i v (sym e) (search_at (echo_due words s) i v f)
  echo_is None f e = admit_is (search_nothing (echo_due words s) f) (search (admit_due words s)) refl e

  -- "Kinds are tried in this order, and within echo and admit it is the first that applies": no move is skipped
  pub chosen_first : chosen words h s ≡ m → Chosen words h s m
  unfolding chosen
  chosen_first e = echo_is (search (echo_due words s)) refl e

-- ---- Echo and admit

due_parts : (words : List ℕ) (need from i v : ℕ) → due words need from i v ≡ true
    → (v < values i) × (need ≤ witnesses words i v) × (member (marks words i) (from + v) ≡ false)
unfolding due
due_parts words need from i v e =
    let (c, m) = and_parts (ltb v (values i) && leb need (witnesses words i v)) (not (member (marks words i) (from + v))) e in
    let (l, n) = and_parts (ltb v (values i)) (leb need (witnesses words i v)) c in
    (ltb-true _ _ l, leb-true _ _ n, not-true _ m)

no_search : (words : List ℕ) (h : Host) (need : ℕ) (m : Move) → proceeding words h need (current h) ≡ m → Gives words h need m
no_search words h need m e = rw e at (proceeding_gives words h need)

echo_found : (words : List ℕ) (h : Host) (s : Thresholds) (i v : ℕ) → Chosen words h s (Move.Echo i v) → Foremost (echo_due words s) i v
echo_found words h s i v (echoes j u e f) =
    let a : j ≡ i = cc in
    let b : u ≡ v = cc in
    rw (a, b) at f
echo_found words h s i v (admits j u e n f) = absurd (cc)
echo_found words h s i v (proceeds n o e) = absurd (no_search words h s.view (Move.Echo i v) e)

admit_found : (words : List ℕ) (h : Host) (s : Thresholds) (i v : ℕ) → Chosen words h s (Move.Admit i v) → Foremost (admit_due words s) i v
admit_found words h s i v (echoes j u e f) = absurd (cc)
admit_found words h s i v (admits j u e n f) =
    let a : j ≡ i = cc in
    let b : u ≡ v = cc in
    rw (a, b) at f
admit_found words h s i v (proceeds n o e) = absurd (no_search words h s.view (Move.Admit i v) e)

-- a chosen echo: the value is one of its instance, has the senders it needs, and was not broadcast there
echo_parts : (words : List ℕ) (h : Host) (s : Thresholds) (i v : ℕ) → chosen words h s ≡ Move.Echo i v
    → (v < values i) × (s.echo ≤ witnesses words i v) × (has_sent words VAL i v ≡ false)
echo_parts words h s i v e =
    due_parts words s.echo 0 i v (echo_found words h s i v (chosen_first words h s (Move.Echo i v) e)).2

admit_parts : (words : List ℕ) (h : Host) (s : Thresholds) (i v : ℕ) → chosen words h s ≡ Move.Admit i v
    → (v < values i) × (s.admit ≤ witnesses words i v) × (admitted words i v ≡ false)
admit_parts words h s i v e =
    due_parts words s.admit 3 i v (admit_found words h s i v (chosen_first words h s (Move.Admit i v) e)).2

-- a host echoes a value with as many senders as an echo needs
pub echo_enough : (words : List ℕ) (h : Host) (s : Thresholds) (i v : ℕ) → chosen words h s ≡ Move.Echo i v → s.echo ≤ witnesses words i v
echo_enough words h s i v e = (echo_parts words h s i v e).1

-- a host echoes a value of the instance that it has not broadcast there
pub echo_new : (words : List ℕ) (h : Host) (s : Thresholds) (i v : ℕ) → chosen words h s ≡ Move.Echo i v
    → (v < values i) × (has_sent words VAL i v ≡ false)
echo_new words h s i v e = let (l, _, n) = echo_parts words h s i v e in (l, n)

-- a host admits a value with as many senders as an admission needs
pub admit_enough : (words : List ℕ) (h : Host) (s : Thresholds) (i v : ℕ) → chosen words h s ≡ Move.Admit i v → s.admit ≤ witnesses words i v
admit_enough words h s i v e = (admit_parts words h s i v e).1

-- a host admits a value of the instance that is not admitted there
pub admit_new : (words : List ℕ) (h : Host) (s : Thresholds) (i v : ℕ) → chosen words h s ≡ Move.Admit i v
    → (v < values i) × (admitted words i v ≡ false)
admit_new words h s i v e = let (l, _, n) = admit_parts words h s i v e in (l, n)

-- ---- Begin, AUX, view, and none

-- whether a move is one that is searched for: echo and admit
abbrev searched : Move → Bool
searched Move.Idle = false
searched (Move.Echo i v) = true
searched (Move.Admit i v) = true
searched (Move.BeginUnsent i) = false
searched (Move.Begin i v) = false
searched (Move.Aux i v) = false
searched (Move.View view) = false

proceeded : (words : List ℕ) (h : Host) (s : Thresholds) (m : Move) → searched m ≡ false → Chosen words h s m
    → (NoneDue (echo_due words s)) × (NoneDue (admit_due words s)) × (proceeding words h s.view (current h) ≡ m)
proceeded words h s m r (echoes i v e f) = absurd (true≢false (cc (ap searched e)))
proceeded words h s m r (admits i v e n f) = absurd (true≢false (cc (ap searched e)))
proceeded words h s m r (proceeds n o e) = (n, o, e)

-- a move that is neither echo nor admit, made where none of these was due
chosen_gives : (words : List ℕ) (h : Host) (s : Thresholds) (m : Move) → searched m ≡ false → chosen words h s ≡ m
    → (NoneDue (echo_due words s)) × (NoneDue (admit_due words s)) × (Gives words h s.view m)
chosen_gives words h s m r e =
    let (n, o, p) = proceeded words h s m r (chosen_first words h s m e) in
    (n, o, no_search words h s.view m p)

not_idle : (b : Bool) (m n : Move) → cond b Move.Idle n ≡ m → (m ≡ Move.Idle → ⊥) → b ≡ false
not_idle true m n e d = absurd (d (sym e))
not_idle false m n e d = refl

-- a finished host "proceeds no more": it makes no such move
chosen_voting : (words : List ℕ) (h : Host) (s : Thresholds) (m : Move) → searched m ≡ false → (m ≡ Move.Idle → ⊥) → chosen words h s ≡ m
    → finished h ≡ false
unfolding proceeding
chosen_voting words h s m r d e = not_idle (finished h) m _ (proceeded words h s m r (chosen_first words h s m e)).2 d

-- so a host that begins with a VAL votes still
pub begin_voting : (words : List ℕ) (h : Host) (s : Thresholds) (i v : ℕ) → chosen words h s ≡ Move.Begin i v → finished h ≡ false
begin_voting words h s i v = chosen_voting words h s (Move.Begin i v) refl (λ q. cc)

-- and so does one that takes a view
pub view_voting : (words : List ℕ) (h : Host) (s : Thresholds) (view : ℕ) → chosen words h s ≡ Move.View view → finished h ≡ false
view_voting words h s view = chosen_voting words h s (Move.View view) refl (λ q. cc)

-- a host that begins with a VAL: of its own value, in its current instance, where it has not begun nor broadcast it
pub begin_new : (words : List ℕ) (h : Host) (s : Thresholds) (i v : ℕ) → chosen words h s ≡ Move.Begin i v
    → (i ≡ current h) × (v ≡ h.own) × (begun words i ≡ false) × (has_sent words VAL i v ≡ false)
begin_new words h s i v e = (chosen_gives words h s (Move.Begin i v) refl e).2

-- a host that begins without: there an echo had broadcast its own value
pub begin_sent : (words : List ℕ) (h : Host) (s : Thresholds) (i : ℕ) → chosen words h s ≡ Move.BeginUnsent i
    → (i ≡ current h) × (begun words i ≡ false) × (has_sent words VAL i h.own ≡ true)
begin_sent words h s i e = (chosen_gives words h s (Move.BeginUnsent i) refl e).2

-- the one AUX of a host is of the lowest admitted value
pub aux_admitted : (words : List ℕ) (h : Host) (s : Thresholds) (i v : ℕ) → chosen words h s ≡ Move.Aux i v
    → (i ≡ current h) × (begun words i ≡ true) × (aux_sent words i ≡ false)
    × (v < values i) × (admitted words i v ≡ true) × ((u : ℕ) → u < v → admitted words i u ≡ false)
aux_admitted words h s i v e = (chosen_gives words h s (Move.Aux i v) refl e).2

nowhere : (q : Option ℕ) → is_some q ≡ false → q ≡ None
nowhere (Some v) e = cc
nowhere None e = refl

-- no AUX sent: none of any value
pub aux_none : (words : List ℕ) (i : ℕ) → aux_sent words i ≡ false → (v : ℕ) → v < values i → has_sent words AUX i v ≡ false
aux_none words i e = first_nowhere (has_sent words AUX i) (values i) (nowhere (first (has_sent words AUX i) (values i)) e)

-- a host that takes a view has as many senders for it as a view needs
pub view_enough : (words : List ℕ) (h : Host) (s : Thresholds) (view : ℕ) → chosen words h s ≡ Move.View view
    → s.view ≤ size (viewers words (current h))
view_enough words h s view e = let (_, _, l, _) = (chosen_gives words h s (Move.View view) refl e).2 in l

-- the view that it takes is of what it heard in its current instance
pub view_is : (words : List ℕ) (h : Host) (s : Thresholds) (view : ℕ) → chosen words h s ≡ Move.View view
    → view ≡ view_of (heard words (current h) 0) (heard words (current h) 1) (heard words (current h) 2)
view_is words h s view e = let (_, _, _, q) = (chosen_gives words h s (Move.View view) refl e).2 in q

-- a host takes a view where it has begun and sent its AUX
pub view_begun : (words : List ℕ) (h : Host) (s : Thresholds) (view : ℕ) → chosen words h s ≡ Move.View view
    → (begun words (current h) ≡ true) × (aux_sent words (current h) ≡ true)
view_begun words h s view e = let (g, a, _, _) = (chosen_gives words h s (Move.View view) refl e).2 in (g, a)

-- idle: nothing to echo, nothing to admit, and it waits
pub idle_means : (words : List ℕ) (h : Host) (s : Thresholds) → chosen words h s ≡ Move.Idle
    → (NoneDue (echo_due words s)) × (NoneDue (admit_due words s)) × (Waits words h s.view)
idle_means words h s e = chosen_gives words h s Move.Idle refl e

idle_or : (b : Bool) (m : Move) → m ≡ Move.Idle → cond b Move.Idle m ≡ Move.Idle
idle_or true m e = refl
idle_or false m e = e

waits_idle : (words : List ℕ) (h : Host) (need : ℕ) → Waits words h need → proceeding words h need (current h) ≡ Move.Idle
unfolding proceeding viewing
waits_idle words h need (finished_now f) = rw f
waits_idle words h need (nothing_admitted g a f) =
    idle_or (finished h) _ (rw (g, a, first_none (admitted words (current h)) (values (current h)) f))
waits_idle words h need (too_few g a l) = idle_or (finished h) _ (rw (g, a, lt-leb need (size (viewers words (current h))) l))

-- nothing to echo, nothing to admit, and it waits: idle
pub idle_when : (words : List ℕ) (h : Host) (s : Thresholds) → NoneDue (echo_due words s) → NoneDue (admit_due words s) → Waits words h s.view
    → chosen words h s ≡ Move.Idle
unfolding chosen
idle_when words h s n o w = rw (search_none (echo_due words s) n, search_none (admit_due words s) o, waits_idle words h s.view w)
