-- What every event of a run keeps: its words are those of a vote that steps reach, and its honest hosts stand as the vote's history says. Assumes
-- nothing.
use Prim.Native.Nat.{ℕ}
use mathlib.Core.Path.{◌≡◌, refl}
use Rattle.host.specs.Words.{put}
use Rattle.host.specs.Record.{sent_one}
use Rattle.host.specs.declared.Host.{Host}
use Rattle.host.proofs.Puts.{put_others, put_grows}
use Rattle.safety.proofs.Votes.{Val, phase1, Slot, stage0, Vote, Honest, History, made}
use Rattle.safety.proofs.Steps.{Reached, step}
use Rattle.safety.proofs.Phases.{phases}
use Rattle.safety.proofs.Reading.{inst, Item, begun, at, bit, Words, says}
use Rattle.safety.proofs.Putting.{Tidy, Put, Reason, put_tidy, put_step}
use Rattle.safety.proofs.Standing.{Stand}

-- words T and records H that a vote with these proposals has reached, by some history by which the honest hosts stand as they do
pub record Voted (C : Vote) (proposal : ℕ → Val) (T : Words) (H : ℕ → Host) : Type 1 where
  pub hist : History
  pub tidy : Tidy C T
  pub reached : Reached C (phases C) (says T hist)
  pub stands : (i : ℕ) → Honest C i → Stand C hist i (H i)
  pub proposed : (i : ℕ) (v : Val) → hist i (made v) → proposal i ≡ v

module _ {C : Vote} {proposal : ℕ → Val} {T : Words} {H : ℕ → Host} (z : Voted C proposal T H) where
  -- one bit more, for its reason
  pub voted_put : {U : Words} {i r : ℕ} {q : Slot} {x : Item} → Put T U i r q x → Reason C (phases C) z.hist T i r q x → Voted C proposal U H
  voted_put P why = record {
    hist = z.hist;
    tidy = put_tidy C (phases C) z.hist z.tidy P why;
    reached = step z.reached (put_step C (phases C) z.hist z.tidy P why);
    stands = z.stands;
    proposed = z.proposed;
  }

  -- other records of hosts that stand as before
  pub voted_hosts : {G : ℕ → Host} → ((j : ℕ) → Stand C z.hist j (H j) → Stand C z.hist j (G j)) → Voted C proposal T G
  voted_hosts f = record {
    hist = z.hist;
    tidy = z.tidy;
    reached = z.reached;
    stands = λ j g. f j (z.stands j g);
    proposed = z.proposed;
  }

-- a host with one frame more broadcast stands as before
pub stand_sent : {C : Vote} {D : History} {i : ℕ} {h : Host} → Stand C D i h → Stand C D i (sent_one h)
stand_sent z = record { own_in = z.own_in; est_in = z.est_in; dec_in = z.dec_in; whole = z.whole }

-- the words of one host with one bit more
pub put_one : (T U : Words) (i r : ℕ) (q : Slot) (x : Item) → ((j : ℕ) → (j ≡ i → ⊥) → U j ≡ T j)
    → U i ≡ put (T i) (at (inst r q) x) (bit x) → Put T U i r q x
put_one T U i r q x others e = record {
  others = others;
  grows = λ k b m. rw e (put_grows (T i) (at (inst r q) x) (bit x) k b m);
  only = λ k b n. rw e (put_others (T i) (at (inst r q) x) (bit x) k b n);
}

-- the words of one host as they were
pub put_none : (T U : Words) (i : ℕ) → ((j : ℕ) → (j ≡ i → ⊥) → U j ≡ T j) → U i ≡ T i → Put T U i 0 (stage0 phase1) begun
put_none T U i others e = record { others = others; grows = λ k b m. rw e m; only = λ k b n. rw e refl }
