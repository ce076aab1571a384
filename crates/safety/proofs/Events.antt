-- Every event of a run keeps the vote: from the run that a file starts and a cleared table, words and records are those of a vote that its steps
-- reach. Assumes nothing.
use Prim.Native.Nat.{ℕ, zero, suc, ◌-◌, ◌/◌, ◌%◌, ◌^◌, ◌≤◌, ◌<◌}
use mathlib.Core.Path.{◌≡◌, refl, sym, ap, subst, ◌∙◌}
use mathlib.Core.Bool.{Bool, true, false, not, not-not}
use mathlib.Core.List.{List}
use native.Mathlib.Decide.{ℕ_discrete}
use native.Mathlib.Omega.{arith}
use lib.ListN.{length, length-set}
use borrow.Author.Tests.{eqb-false, ne_eqb, leb-false, not-true}
use Rattle.answer.specs.Answer.{Answer, refused, accepted}
use Rattle.frame.specs.declared.Frame.{Frame}
use Rattle.quorum.specs.Count.{count}
use Rattle.quorum.specs.World.{thresholds_of}
use Rattle.quorum.specs.declared.World.{World}
use Rattle.quorum.proofs.Counting.{count_same}
use Rattle.quorum.proofs.Reached.{Sized}
use Rattle.host.specs.Words.{has_sent}
use Rattle.host.specs.Record.{lying, coin, Valid}
use Rattle.host.specs.declared.Host.{Host}
use Rattle.view.proofs.Views.{coins_stay, honest_stays}
use Rattle.turn.specs.Moves.{chosen}
use Rattle.turn.specs.Applying.{Turn, idle, quiet, broadcast, answered}
use Rattle.turn.specs.declared.choosing.Move.{Move}
use Rattle.turn.proofs.Turns.{turn_made}
use Rattle.delivery.specs.Recording.{frame_instance}
use Rattle.delivery.proofs.Changes.{word_delivered, delivery_said, asked_sent}
use Rattle.file.specs.Layouts.{three_at, event_of}
use Rattle.file.specs.declared.Event.{Event}
use Rattle.table.specs.Table.{part_of, said}
use Rattle.table.specs.Stepping.{delivers}
use Rattle.table.proofs.Steps.{step_length, step_others, step_turn, step_delivery, step_valid, quiet_valid, said_asked}
use Rattle.run.specs.Playing.{host_in, sender_in, host_at, happens, record_after, settled, run_after, table_after, after}
use Rattle.run.specs.declared.Run.{Run}
use Rattle.run.proofs.Happening.{step_of, refused_leaves, event_step, host_32}
use Rattle.run.proofs.Runs.{along}
use Rattle.run.proofs.Sent.{event_others, event_own}
use Rattle.safety.specs.Demand.{liars, proposal}
use Rattle.safety.proofs.Votes.{Val, Bit, Vote, Honest}
use Rattle.safety.proofs.Reading.{val_of}
use Rattle.safety.proofs.Standing.{Stand}
use Rattle.safety.proofs.Voted.{Voted, voted_hosts}
use Rattle.safety.proofs.Moving.{turn_voted}
use Rattle.safety.proofs.Hearing.{read_as, delivery_voted}

-- ---- The vote of a run

pub bit_val : (k : ℕ) → k < 2 → Bit (val_of k)
bit_val zero l = tt
bit_val (suc zero) l = tt
bit_val (suc (suc k)) l = absurd (omega arith)

-- the run that a file starts, with a world of the right size and at most t liars
module _ (first : Run) (sized : Sized first.world) (few : liars first ≤ first.world.t) where
  -- at most t are not honest
  pub few_lying : count first.world.n (λ i. not (not (lying (host_at first i)))) ≤ first.world.t
  few_lying = rw (count_same first.world.n (λ i. not (not (lying (host_at first i)))) (λ i. lying (host_at first i)) (λ i. not-not (lying (host_at first i)))) few

  -- the vote of its hosts, and their proposals
  abbrev pub vote : Vote
  vote = record {
    n = first.world.n;
    t = first.world.t;
    big = sized.big;
    honest = λ i. not (lying (host_at first i));
    few = few_lying;
    coin = λ i r. val_of ((host_at first i).coins / 2 ^ (16 - suc r) % 2);
    coin_bit = λ i r. bit_val ((host_at first i).coins / 2 ^ (16 - suc r) % 2) (omega arith);
  }

  abbrev pub proposals : ℕ → Val
  proposals i = val_of (proposal first i)

  -- what every event keeps: the table's room, the records' number and ranges, the world, who lies, the coins, and the vote
  pub record Fair (now : Run) (table : List ℕ) : Type 1 where
    pub room : 14336 ≤ length table
    pub hosts : length now.hosts ≡ 32
    pub world : now.world ≡ first.world
    pub ranged : (i : ℕ) → i < 32 → Valid (host_at now i)
    pub lies : (i : ℕ) → lying (host_at now i) ≡ lying (host_at first i)
    pub coins : (i : ℕ) → (host_at now i).coins ≡ (host_at first i).coins
    pub voted : Voted vote proposals (part_of table) (host_at now)

  -- ---- One event

  -- the coin of the round in which a host is
  tossed : (now : Run) (table : List ℕ) → Fair now table → (i : ℕ) → i < 32 → val_of (coin (host_at now i)) ≡ vote.coin i ((host_at now i).round - 1)
  unfolding coin
  tossed now table x i l =
      let r : suc ((host_at now i).round - 1) ≡ (host_at now i).round = omega (arith, (x.ranged i l).round_low) in
      rw (r, x.coins i) refl

  -- a move leaves the coins, and makes nobody a liar
  still : (h : Host) (me : ℕ) (m : Move) → lying h ≡ false
      → (lying (record_after h (answered h me m)) ≡ false) × ((record_after h (answered h me m)).coins ≡ h.coins)
  still h me Move.Idle l = (l, refl)
  still h me (Move.Echo i v) l = (l, refl)
  still h me (Move.Admit i v) l = (l, refl)
  still h me (Move.BeginUnsent i) l = (l, refl)
  still h me (Move.Begin i v) l = (l, refl)
  still h me (Move.Aux i v) l = (l, refl)
  still h me (Move.View view) l = (ne_eqb _ 3 (honest_stays h view (eqb-false h.standing 3 l)), coins_stay h view)

  module _ (now : Run) (table piece : List ℕ) (x : Fair now table) where
    -- the event and its host
    abbrev event : Event
    event = event_of (three_at piece 0)

    abbrev i : ℕ
    i = host_in piece

    -- a refused event leaves all but the counts
    refused_fair : (k : ℕ) → Fair (settled now i (refused k)) table
    refused_fair k = record {
      room = x.room;
      hosts = x.hosts;
      world = x.world;
      ranged = x.ranged;
      lies = x.lies;
      coins = x.coins;
      voted = x.voted;
    }

    module _ (a : Turn) (t : List ℕ) (e : happens now table piece ≡ (accepted a, t)) where
      -- the run after an accepted one, the record of each host in it, and the words of each host
      abbrev next : Run
      next = settled now i (accepted a)

      done : step_of now table piece i ≡ (accepted a, t)
      done = event_step now table piece e

      same : (j : ℕ) → (j ≡ i → ⊥) → host_at next j ≡ host_at now j
      same j d = rw e at (event_others now table piece j d)

      own : host_at next i ≡ record_after (host_at now i) a
      own = rw e at (event_own now table piece (rw x.hosts (host_32 piece)) e)

      others : (j : ℕ) → (j ≡ i → ⊥) → part_of t j ≡ part_of table j
      others j d = step_others table (host_at now i) _ now.world event j done d

      -- what the event's host keeps, and the others, all keep
      all : (P : ℕ → Host → Type 0) → ((j : ℕ) → P j (host_at now j)) → P i (record_after (host_at now i) a) → (j : ℕ) → P j (host_at next j)
      all P before now-so j = go (ℕ_discrete j i)
        where
          go : Dec (j ≡ i) → P j (host_at next j)
          go (yes q) = rw (q, own) now-so
          go (no d) = rw (same j d) (before j)

      -- the record is in range
      in_range : (b : Turn) → b ≡ a → Valid (record_after (host_at now i) b)
      in_range idle q = x.ranged i (host_32 piece)
      in_range (quiet g) q = quiet_valid table (host_at now i) _ now.world event (rw (← q) at done)
      in_range (broadcast g f) q = step_valid table (host_at now i) _ now.world event (rw (← q) at done)

      -- what is left to show of an accepted event: the host's honesty, its coins, and the vote
      accepted_fair : lying (record_after (host_at now i) a) ≡ lying (host_at first i) → (record_after (host_at now i) a).coins ≡ (host_at first i).coins
          → Voted vote proposals (part_of t) (host_at next) → Fair next t
      accepted_fair l c y = record {
        room = rw (step_length table (host_at now i) _ now.world event done) x.room;
        hosts = length-set now.hosts i (record_after (host_at now i) a) ∙ x.hosts;
        world = x.world;
        ranged = all (λ j h. j < 32 → Valid h) x.ranged (λ _. in_range a refl);
        lies = all (λ j h. lying h ≡ lying (host_at first j)) x.lies l;
        coins = all (λ j h. h.coins ≡ (host_at first j).coins) x.coins c;
        voted = y;
      }

      same_n : now.world.n ≡ vote.n
      same_n = ap (λ (w : World). w.n) x.world

      same_t : now.world.t ≡ vote.t
      same_t = ap (λ (w : World). w.t) x.world

      -- a turn
      turn_fair : delivers event ≡ false → Fair next t
      turn_fair d =
          let h = host_at now i in
          let taken = step_turn table h _ now.world event d done in
          let ((_, (_, (_, (host, (honest, (whole, _)))))), moved) = turn_made (part_of table i) h now.world i taken in
          let m : Move = chosen (part_of table i) h (thresholds_of now.world) in
          let answer : a ≡ answered h i m = ap (λ p. p.0) moved in
          let (lies, coins) = still h i m honest in
          let g : Honest vote i = (omega (arith, leb-false now.world.n i host, same_n), rw (← x.lies i, honest) refl) in
          accepted_fair (rw answer (lies ∙ sym honest ∙ x.lies i)) (rw answer (coins ∙ x.coins i))
          (turn_voted vote proposals now.world same_n same_t (part_of table) (part_of t) (host_at now) i g (x.ranged i (host_32 piece)) others x.voted
          (host_at next) same honest whole (tossed now table x i (host_32 piece)) m refl (ap (λ p. p.1) moved) (own ∙ ap (record_after h) answer))

      -- a delivery
      heard_fair : delivers event ≡ true → Fair next t
      heard_fair d =
          let h = host_at now i in
          let word = event.word in
          let s = host_at now (sender_in event) in
          let (heard, nothing) = step_delivery table h s now.world event d done in
          let (f, read, taken) = word_delivered (part_of table i) h now.world word (said table s now.world word) heard in
          let (says, sound) = read_as word read in
          let sender : sender_in event ≡ f.sender = sym (ap (λ (f : Frame). f.sender) says) in
          let asked = said_asked table s now.world word f read (delivery_said (part_of table i) h now.world f _ taken) in
          let broadcast-it : vote.honest f.sender ≡ true → has_sent (part_of table f.sender) f.kind (frame_instance f) f.value ≡ true =
          λ g. asked_sent (part_of table f.sender) s now.world f asked (x.lies _ ∙ rw sender (not-true _ g)) in
          let y : Voted vote proposals (part_of t) (host_at now) =
          delivery_voted vote proposals now.world same_n (part_of table) (part_of t) (host_at now) i others x.voted f sound h _ taken broadcast-it in
          let record_is : record_after h a ≡ h = rw nothing refl in
          accepted_fair (rw record_is (x.lies i)) (rw record_is (x.coins i))
          (voted_hosts y (λ j. subst (Stand vote y.hist j) (sym (all (λ j h. h ≡ host_at now j) (λ j. refl) record_is j))))

  -- every event keeps it
  fair_event : (now : Run) (table piece : List ℕ) → Fair now table → Fair (run_after now table piece) (table_after now table piece)
  fair_event now table piece x = go (happens now table piece) refl
    where
      go : (y : Answer Turn × List ℕ) → happens now table piece ≡ y → Fair (settled now (host_in piece) y.0) y.1
      go (refused k, t) e = rw (refused_leaves now table piece e).0 (refused_fair now table piece x k)
      go (accepted a, t) e = kind (delivers (event_of (three_at piece 0))) refl
        where
          kind : (b : Bool) → delivers (event_of (three_at piece 0)) ≡ b → Fair (settled now (host_in piece) (accepted a)) t
          kind true d = heard_fair now table piece x a t e d
          kind false d = turn_fair now table piece x a t e d

  -- and so does a run
  pub fair_run : (now : Run) (table : List ℕ) (pieces : List (List ℕ)) → Fair now table → Fair (after now table pieces).0 (after now table pieces).1
  fair_run = along Fair fair_event
