-- One event on a list: what it makes of the one record and of the table is what it makes of a run of these records. Assumes nothing.
use Prim.Native.Nat.{ℕ, ◌≤◌}
use mathlib.Core.Path.{◌≡◌, refl, sym, ap, ◌∙◌}
use mathlib.Core.List.{List}
use lib.ListN.{length, get_or, set}
use lib.Seq.{set-get_or}
use borrow.Author.Tests.{le-ltb}
use Rattle.answer.specs.Answer.{Answer, refused, accepted, guarded, going_on}
use Rattle.answer.proofs.Guards.{clear}
use Rattle.quorum.specs.declared.World.{World}
use Rattle.host.specs.declared.Host.{Host}
use Rattle.file.specs.Layouts.{three_at, event_of}
use Rattle.file.specs.Reading.{piece_guards, event_in}
use Rattle.file.specs.declared.Event.{Event}
use Rattle.turn.specs.Applying.{Turn}
use Rattle.run.specs.Starting.{fresh_run}
use Rattle.run.specs.Playing.{host_in, no_host, happens, record_after}
use Rattle.calls.specs.List.{code, listed, listing, coded, StepsList}
use Rattle.calls.specs.Parts.{host_place, sender_place, between, table_guards, meeting}

abbrev at : List Host → ℕ → Host
at hosts i = get_or hosts i no_host

-- the host that the bytes name is the event's
host_in_lem : (event : List ℕ) {e : Event} → event_in event 0 ≡ accepted e → host_in event ≡ e.host
unfolding event_in
host_in_lem event is = sym (ap (λ (e : Event). e.host) (clear (piece_guards event 0) (event_of (three_at event 0)) is).1)

-- the host's record after an event that was answered so
abbrev pub record_from : Host → Answer Turn → Host
record_from h (refused k) = h
record_from h (accepted turn) = record_after h turn

-- what the record makes of an event, put into the list
abbrev put : List Host → ℕ → Answer Turn × List ℕ → Answer Turn × (List Host × List ℕ)
put hosts p (answer, after) = (answer, (set hosts p (record_from (at hosts p) answer), after))

-- a refused event changes no record
put_refused : (hosts : List Host) (table : List ℕ) (p k : ℕ) → ◌≡◌ {A = Answer Turn × (List Host × List ℕ)} (refused k, (hosts, table)) (put hosts p (refused k, table))
put_refused hosts table p k = rw (set-get_or hosts p no_host)

-- and one that is accepted is settled as in a run
put_settled : (hosts : List Host) (w : World) (event : List ℕ) (p : ℕ) → host_in event ≡ p → (answered : Answer Turn × List ℕ)
    → listed hosts w event answered ≡ put hosts p answered
put_settled hosts w event p at (refused k, after) = put_refused hosts after p k
put_settled hosts w event p at (accepted turn, after) = rw at

module _ (hosts : List Host) (table : List ℕ) (w : World) (event : List ℕ) where
  -- the event with the two records that it names
  abbrev met : Answer Event → Answer Turn × List ℕ
  met e = between (at hosts (host_place e)) (at hosts (sender_place e)) table w e

  by_event : (e : Answer Event) → event_in event 0 ≡ e → listed hosts w event (happens (fresh_run w hosts) table event) ≡ put hosts (host_place e) (met e)
  unfolding happens
  by_event (refused k) is = rw is (put_refused hosts table 0 k)
  by_event (accepted e) is = rw is (put_settled hosts w event e.host (host_in_lem event is) (met (accepted e)))

  -- 13, 2 and 3 stand before it in both
  by_guards : (g : Answer Unit) → going_on (hosts, table) g (listed hosts w event (happens (fresh_run w hosts) table event))
      ≡ put hosts (host_place (event_in event 0)) (going_on table g (met (event_in event 0)))
  by_guards (refused k) = put_refused hosts table (host_place (event_in event 0)) k
  by_guards (accepted u) = by_event (event_in event 0) refl

  -- a list that is long enough: the record stands in it, and the answer is its number
  pub in_list : (p q : ℕ) (answer : Answer Turn) (after : List ℕ) → 32 ≤ length hosts → p ≡ host_place (event_in event 0)
      → q ≡ sender_place (event_in event 0) → ◌≡◌ {A = Answer Turn × List ℕ} (answer, after) (meeting (at hosts p) (at hosts q) table w event)
      → StepsList hosts table w event (code answer) (set hosts p (record_from (at hosts p) answer)) after
  unfolding listing
  in_list p q answer after long ip iq is =
      ap (λ (d : Answer Turn × List ℕ). coded (put hosts p d)) is
      ∙ rw (ip, iq, le-ltb (length hosts) 32 long) (ap coded (sym (by_guards (guarded (table_guards table w) tt))))

  -- where the record is as it was, so is the list
  pub in_list_same : (p q : ℕ) (answer : Answer Turn) (after : List ℕ) → record_from (at hosts p) answer ≡ at hosts p → 32 ≤ length hosts
      → p ≡ host_place (event_in event 0) → q ≡ sender_place (event_in event 0)
      → ◌≡◌ {A = Answer Turn × List ℕ} (answer, after) (meeting (at hosts p) (at hosts q) table w event)
      → StepsList hosts table w event (code answer) hosts after
  in_list_same p q answer after same long ip iq is = rw (same, set-get_or hosts p no_host) at (in_list p q answer after long ip iq is)
