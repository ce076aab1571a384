-- A host's record. Document 01, "Frames and run files": "a record per host: round, phase, stage, own value (in stage 0 equal to the estimate),
-- estimate, decision, coin bits, sent count (0 to 224), standing".
use Rattle.std.specs.Prelude.{ℕ, ◌+◌, ◌-◌, ◌/◌, ◌%◌, ◌^◌, ◌≤◌, ◌<◌, ◌≡◌, Bool, ◌&&◌, ◌||◌, not, ltb, eqb}
use Rattle.host.specs.declared.Host.{Host}

-- standing: 0 honest and voting, 1 finished, 2 broken, 3 lying
abbrev pub finished : Host → Bool
finished h = eqb h.standing 1

abbrev pub broken : Host → Bool
broken h = eqb h.standing 2

abbrev pub lying : Host → Bool
lying h = eqb h.standing 3

-- 13: "a lent host record with a field outside its range, or in stage 0 with an own value other than its estimate"; decision 2 is none
abbrev pub bad_place : Host → Bool
bad_place h = eqb h.round 0 || ltb 16 h.round || eqb h.phase 0 || ltb 2 h.phase || ltb 1 h.stage

abbrev pub bad_vote : Host → Bool
bad_vote h = ltb 2 h.own || ltb 1 h.est || ltb 2 h.decision || (eqb h.stage 0 && not (eqb h.own h.est))

abbrev pub bad_standing : Host → Bool
bad_standing h = ltb 224 h.sent || ltb 3 h.standing

abbrev pub bad_host : Host → Bool
bad_host h = bad_place h || bad_vote h || bad_standing h

-- "sixteen coin bits, round 1 first"
unfoldable pub coin : Host → ℕ
coin h = h.coins / 2 ^ (16 - h.round) % 2

-- the record at another place, with these values
abbrev pub moved : Host → ℕ → ℕ → ℕ → ℕ → ℕ → ℕ → Host
moved h round phase stage own est decision = record {
  round = round;
  phase = phase;
  stage = stage;
  own = own;
  est = est;
  decision = decision;
  sent = h.sent;
  standing = h.standing;
  coins = h.coins;
}

-- the record with another standing
abbrev pub stood : Host → ℕ → Host
stood h standing = record {
  round = h.round;
  phase = h.phase;
  stage = h.stage;
  own = h.own;
  est = h.est;
  decision = h.decision;
  sent = h.sent;
  standing = standing;
  coins = h.coins;
}

-- the record with one frame more broadcast
abbrev pub sent_one : Host → Host
sent_one h = record {
  round = h.round;
  phase = h.phase;
  stage = h.stage;
  own = h.own;
  est = h.est;
  decision = h.decision;
  sent = h.sent + 1;
  standing = h.standing;
  coins = h.coins;
}

-- every field in its range, and in stage 0 the own value the estimate: what `bad_host` lets pass
pub record Valid (h : Host) : Type 0 where
  pub round_low : 1 ≤ h.round
  pub round_high : h.round ≤ 16
  pub phase_low : 1 ≤ h.phase
  pub phase_high : h.phase ≤ 2
  pub stage : h.stage < 2
  pub own : h.own < 3
  pub est : h.est < 2
  pub decision : h.decision < 3
  pub same : h.stage ≡ 0 → h.own ≡ h.est
  pub sent : h.sent ≤ 224
  pub standing : h.standing < 4
