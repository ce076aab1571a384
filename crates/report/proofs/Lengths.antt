-- How long a line is at most: the longest, that of a finished host, has 67 bytes. Assumes nothing.
use Prim.Native.Nat.{ℕ, ◌+◌, ◌≤◌, ◌<◌}
use mathlib.Core.Path.{◌≡◌}
use mathlib.Core.List.{List, ◌++◌}
use native.Mathlib.Omega.{arith}
use lib.Dec.{eqb}
use lib.ListN.{length, length-append}
use Rattle.answer.proofs.Tests.{either}
use Rattle.host.specs.Record.{Valid, finished, broken, lying}
use Rattle.host.specs.declared.Host.{Host}
use Rattle.report.specs.Text.{text, decimal}
use Rattle.report.specs.Lines.{refusal_line, event_line, totals_line, standing_word, decision_word, fields, host_line}
use Rattle.report.proofs.Digits.{few}

lengths : (a b c d e : List ℕ) → length (a ++ b ++ c ++ d ++ e) ≡ length a + length b + length c + length d + length e
lengths a b c d e = simp length-append

pub refusal_most : (number : ℕ) → number < 1000 → length (refusal_line number) ≤ 12
unfolding text refusal_line
refusal_most number l = omega (arith, length-append (decimal number) (text "\n"), few 2 number (omega arith))

pub event_most : (event number : ℕ) → event < 10000000000 → number < 1000 → length (event_line event number) ≤ 29
unfolding text event_line
event_most event number k l =
    omega (
      arith,
      lengths (text "event ") (decimal event) (text " refused ") (decimal number) (text "\n"),
      few 9 event (omega arith),
      few 2 number (omega arith),
    )

pub totals_most : (events refusals : ℕ) → events < 10000000000 → refusals < 10000000000 → length (totals_line events refusals) ≤ 37
unfolding text totals_line
totals_most events refusals k l =
    omega (
      arith,
      lengths (text "events ") (decimal events) (text " refused ") (decimal refusals) (text "\n"),
      few 9 events (omega arith),
      few 9 refusals (omega arith),
    )

-- ---- The host line

word_most : (h : Host) → length (standing_word h) ≤ 8
unfolding text
word_most h =
    either (λ x. length x ≤ 8) (finished h) (text "finished") _ (λ e. omega arith)
    (λ e. either (λ x. length x ≤ 8) (broken h) (text "broken") (text "honest") (λ f. omega arith) (λ f. omega arith))

decision_most : (h : Host) → h.decision < 10 → length (decision_word h) ≤ 1
unfolding text
decision_most h l =
    either (λ x. length x ≤ 1) (eqb h.decision 2) (text "-") (decimal h.decision) (λ e. omega arith)
    (λ e. few 0 h.decision (omega arith))

lengths_12 : (a b c d e f g h i j k l : List ℕ) → length (a ++ b ++ c ++ d ++ e ++ f ++ g ++ h ++ i ++ j ++ k ++ l)
    ≡ length a + length b + length c + length d + length e + length f + length g + length h + length i + length j + length k + length l
lengths_12 a b c d e f g h i j k l = simp length-append

fields_most : (h : Host) → Valid h → length (fields h) ≤ 50
unfolding text
fields_most h v =
    let n = lengths_12 (text " round ") (decimal h.round) (text " phase ") (decimal h.phase) (text " stage ") (decimal h.stage)
    (text " est ") (decimal h.est) (text " decided ") (decision_word h) (text " sent ") (decimal h.sent) in
    let r = few 1 h.round (omega (arith, v.round_high)) in
    let p = few 0 h.phase (omega (arith, v.phase_high)) in
    let s = few 0 h.stage (omega (arith, v.stage)) in
    let e = few 0 h.est (omega (arith, v.est)) in
    let d = decision_most h (omega (arith, v.decision)) in
    let m = few 2 h.sent (omega (arith, v.sent)) in
    omega arith

pub host_most : (me : ℕ) (h : Host) → me < 32 → Valid h → length (host_line me h) ≤ 67
unfolding text host_line
host_most me h l v =
    let m = few 1 me (omega arith) in
    either (λ x. length (text "host " ++ decimal me ++ text " " ++ x ++ text "\n") ≤ 67) (lying h) (text "lying") (standing_word h ++ fields h)
    (λ e. omega (arith, lengths (text "host ") (decimal me) (text " ") (text "lying") (text "\n"), m))
    (λ e. omega (
      arith,
      lengths (text "host ") (decimal me) (text " ") (standing_word h ++ fields h) (text "\n"),
      m,
      length-append (standing_word h) (fields h),
      word_most h,
      fields_most h v,
    ))
