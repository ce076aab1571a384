-- After the view. Document 01, "What a host does"; the paper's Figures 3 and 4, whose lines stand in brackets. A view is a set of values, as a
-- word: value v is in it where bit v is one, so that {0} is 1, {1} is 2 and {neither} is 4.
use Rattle.std.specs.Prelude.{ℕ, ◌+◌, ◌≡◌, cond, ◌&&◌, leb, eqb}
use Rattle.quorum.specs.Sets.{member}
use Rattle.host.specs.Record.{coin, moved, stood}
use Rattle.host.specs.declared.Host.{Host}

-- the value of a view of one value 0 or 1, else neither
unfoldable pub only_of : ℕ → ℕ
only_of view = cond (eqb view 1) 0 (cond (eqb view 2) 1 2)

-- "Stage 0: one value v gives v as the own value of stage 1; two values give "neither"." [Figure 3, lines 1, 2]
abbrev pub after_first : Host → ℕ → Host
after_first h view = moved h h.round h.phase 1 (only_of view) h.est h.decision

-- "Stage 1, phase 1: a view of one value 0 or 1 becomes the estimate; otherwise the estimate is the host's coin bit of that round."
-- [Figure 4, lines 3, 4]
unfoldable pub phase_estimate : ℕ → ℕ → ℕ
phase_estimate view coin = cond (eqb (only_of view) 2) coin (only_of view)

-- ".. Phase 2 follows." "The own value of stage 0 is the estimate" [Figure 4, line 5]
abbrev pub after_phase : Host → ℕ → Host
after_phase h view = moved h h.round 2 0 (phase_estimate view (coin h)) (phase_estimate view (coin h)) h.decision

-- "Stage 1, phase 2: only v (0 or 1) decides v if nothing is decided yet .." [Figure 4, line 6]
unfoldable pub decided : ℕ → ℕ → ℕ
decided view decision = cond (eqb decision 2) (only_of view) decision

-- ".. and the estimate becomes v; v and neither makes the estimate v; only neither changes nothing." [Figure 4, line 6 with the paper's Lemma 3,
-- and lines 7, 8]
unfoldable pub round_estimate : ℕ → ℕ → ℕ
round_estimate view est = cond (member view 0) 0 (cond (member view 1) 1 est)

-- ".. Then the next round." [Figure 4, lines 1, 2] "After round 16 a host is finished: it stays at round 16, phase 2, stage 1 with the own value
-- it had there"
unfoldable pub after_round : Host → ℕ → ℕ → Host
after_round h est decision =
    cond (leb 16 h.round) (stood (moved h h.round h.phase h.stage h.own est decision) 1)
    (moved h (h.round + 1) 1 0 est est decision)

-- "A stage 1 view that holds both 0 and 1: the host is broken, its round, phase, stage, own value, estimate and decision as they were."
unfoldable pub after_view : Host → ℕ → Host
after_view h view =
    cond (eqb h.stage 0) (after_first h view)
    (cond (member view 0 && member view 1) (stood h 2)
    (cond (eqb h.phase 1) (after_phase h view)
    (after_round h (round_estimate view h.est) (decided view h.decision))))

-- the promise of `after_view`
abbrev pub Views : Host → ℕ → Host → Type 0
Views host view after = after ≡ after_view host view
