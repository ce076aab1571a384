-- How a run starts: the run that a file starts and a cleared table are those of a vote in which nothing has happened but the proposals. Assumes
-- nothing.
use Prim.Native.Nat.{ℕ, ◌≤◌, ◌<◌}
use mathlib.Core.Path.{◌≡◌, refl}
use mathlib.Core.Bool.{Bool, true, false, cond}
use mathlib.Core.List.{List}
use native.Mathlib.Omega.{arith}
use lib.Dec.{eqb}
use lib.ListN.{length-replicate}
use Rattle.answer.specs.Answer.{accepted}
use Rattle.answer.proofs.Tests.{clash}
use Rattle.quorum.proofs.Adding.{member_none}
use Rattle.quorum.proofs.Reached.{Sized, sized}
use Rattle.host.specs.Record.{Valid}
use Rattle.host.specs.declared.Host.{Host}
use Rattle.file.specs.Layouts.{honest, first_host}
use Rattle.table.specs.Table.{part_of}
use Rattle.run.specs.Starting.{starting}
use Rattle.run.specs.Playing.{host_at}
use Rattle.run.specs.declared.Run.{Run}
use Rattle.run.proofs.Starts.{first_valid, started_world, started_length, started_all}
use Rattle.safety.specs.Demand.{liars, cleared}
use Rattle.safety.proofs.Votes.{Val, Slot, View, Fact, made, saw, Honest as HonestIn}
use Rattle.safety.proofs.Phases.{first}
use Rattle.safety.proofs.Steps.{start}
use Rattle.safety.proofs.Reading.{Item, bit, said_val, said_aux, val, aux, admits, holds, holds_parts, lowest_has, says}
use Rattle.safety.proofs.Standing.{Stand}
use Rattle.safety.proofs.Events.{bit_val, vote, proposals, Fair}
use Rattle.safety.proofs.Marks.{cleared_words}

-- what has happened before the first event: the proposals
data Given (p : ℕ → Val) : ℕ → Fact → Type 0 where
  given : {i : ℕ} → Given p i (made (p i))

given_is : {p : ℕ → Val} {i : ℕ} {f : Fact} → Given p i f → f ≡ made (p i)
given_is given = refl

none_seen : {p : ℕ → Val} {i r : ℕ} {q : Slot} {W : View} → Given p i (saw r q W) → ⊥
none_seen d = let e = given_is d in let z : ◌≡◌ {A = ℕ} 0 1 = cc in omega arith

-- nothing holds in a cleared table
nothing : (i r : ℕ) (q : Slot) (x : Item) → holds (part_of cleared) i r q x ≡ true → ⊥
nothing i r q x h =
    let (_, _, m) = holds_parts (part_of cleared) i r q x h in
    clash (rw (cleared_words i _) at m) (member_none (bit x))

-- "Each starts at round 1, phase 1, stage 0, undecided", honest or lying
abbrev Fresh : Host → Type 0
Fresh h = (h.round ≡ 1) × (h.phase ≡ 1) × (h.stage ≡ 0) × (h.own ≡ h.est) × (h.decision ≡ 2) × (h.standing ≡ 2 → ⊥)

standing_first : (b : Bool) → ◌≡◌ {A = ℕ} (cond b 3 0) 2 → ⊥
standing_first true e = omega arith
standing_first false e = omega arith

fresh : (number : ℕ) → Fresh (first_host number)
fresh number = (refl, refl, refl, refl, refl, standing_first (eqb (honest number) 0))

-- a file whose header and records are accepted, with at most t liars
module _ (bytes : List ℕ) (run : Run) (started : starting bytes ≡ accepted run) (few : liars run ≤ run.world.t) where
  -- its world has the right size
  pub size_of : Sized run.world
  size_of = let (n, t) = started_world bytes started in sized run.world n t

  pub below : {i : ℕ} → i < run.world.n → i < 32
  below l = omega (arith, size_of.most)

  pub ranged : (i : ℕ) → i < 32 → Valid (host_at run i)
  ranged = started_all bytes started Valid first_valid

  stands_first : (i : ℕ) → HonestIn (vote run size_of few) i → Stand (vote run size_of few) (Given (proposals run size_of few)) i (host_at run i)
  stands_first i g =
      let (round, phase, stage, own, decision, whole) = started_all bytes started Fresh fresh i (below g.0) in
      record {
        own_in = λ _. rw (round, phase, stage, own) (first g (bit_val (host_at run i).est (ranged i (below g.0)).est) given);
        est_in = λ _ _ s. absurd (omega arith);
        dec_in = λ v l e. absurd (omega arith);
        whole = whole;
      }

  pub fair_first : Fair run size_of few run cleared
  unfolding says
  fair_first = record {
    room = rw (length-replicate {A = ℕ} 14336 0) (omega arith);
    hosts = started_length bytes started;
    world = refl;
    ranged = ranged;
    lies = λ i. refl;
    coins = λ i. refl;
    voted = record {
      hist = Given (proposals run size_of few);
      tidy = record {
        val_low = λ i r q v j h. absurd (nothing i r q (val v j) h);
        aux_low = λ i r q v j h. absurd (nothing i r q (aux v j) h);
        aux_one = λ i r q j v w h _. absurd (nothing i r q (aux v j) h);
        said_one = λ i r q v w h _. absurd (nothing i r q (said_aux v) h);
      };
      reached = start (record {
        no_val = λ {i} {r} {q} {v} {j} h. nothing i r q (val v j) h;
        no_aux = λ {i} {r} {q} {j} {v} h. nothing i r q (aux v j) (lowest_has (λ v. holds (part_of cleared) i r q (aux v j)) v h);
        no_sent_val = λ {i} {r} {q} {v} h. nothing i r q (said_val v) h;
        no_adm = λ {i} {r} {q} {v} h. nothing i r q (admits v) h;
        no_saw = none_seen;
      });
      stands = stands_first;
      proposed = λ i v d. let e = given_is d in cc;
    };
  }
