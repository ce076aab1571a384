-- The bits of a run file's header, host records and events. Document 01, "Frames and run files". Each is a list of widths, packed most
-- significant first as a frame is; bytes are fields of eight bits, and "the high byte goes first".
use Rattle.std.specs.Prelude.{ℕ, ◌+◌, cond, List, [], ◌∷◌, eqb, get_or}
use Rattle.frame.specs.Layout.{fields, joined}
use Rattle.quorum.specs.World.{world_of}
use Rattle.quorum.specs.declared.World.{World}
use Rattle.host.specs.declared.Host.{Host}
use Rattle.file.specs.declared.Event.{Event}

-- ---- Bytes

abbrev pub two : ℕ → ℕ → ℕ
two high low = joined (8 ∷ 8 ∷ []) (high ∷ low ∷ [])

abbrev pub three : ℕ → ℕ → ℕ → ℕ
three high middle low = joined (8 ∷ 8 ∷ 8 ∷ []) (high ∷ middle ∷ low ∷ [])

abbrev pub three_at : List ℕ → ℕ → ℕ
three_at bytes at = three (get_or bytes at 0) (get_or bytes (at + 1) 0) (get_or bytes (at + 2) 0)

-- ---- The header

-- "two header bytes with n minus 1 in 5 bits, t in 4, spare 7"
abbrev pub header_widths : List ℕ
header_widths = 5 ∷ 4 ∷ 7 ∷ []

abbrev pub header_field : ℕ → ℕ → ℕ
header_field word k = get_or (fields header_widths word) k 0

unfoldable pub header_world : ℕ → World
header_world word = world_of (header_field word 0 + 1) (header_field word 1)

abbrev pub header_spare : ℕ → ℕ
header_spare word = header_field word 2

-- ---- A host record

-- "three bytes per host: honest 1 bit, proposal 1, spare 6, then sixteen coin bits, round 1 first"
abbrev pub record_widths : List ℕ
record_widths = 1 ∷ 1 ∷ 6 ∷ 16 ∷ []

abbrev pub record_field : ℕ → ℕ → ℕ
record_field number k = get_or (fields record_widths number) k 0

abbrev pub honest : ℕ → ℕ
honest number = record_field number 0

abbrev pub proposal : ℕ → ℕ
proposal number = record_field number 1

abbrev pub record_spare : ℕ → ℕ
record_spare number = record_field number 2

abbrev pub coin_bits : ℕ → ℕ
coin_bits number = record_field number 3

-- standing 0 honest, 3 lying
abbrev pub standing_of : ℕ → ℕ
standing_of bit = cond (eqb bit 0) 3 0

-- "Each starts at round 1, phase 1, stage 0, undecided, sent 0", "the own value of stage 0 is the estimate, at first the proposal"; "a liar's
-- own value, estimate and coin bits are 0", as its bits are
abbrev pub first_host : ℕ → Host
first_host number = record {
  round = 1;
  phase = 1;
  stage = 0;
  own = proposal number;
  est = proposal number;
  decision = 2;
  sent = 0;
  standing = standing_of (honest number);
  coins = coin_bits number;
}

-- ---- An event

-- "events of three bytes: kind 2 bits (0 deliver, 2 turn), spare 1, host 5 (the receiver, or the host whose turn it is), then a frame"
abbrev pub event_widths : List ℕ
event_widths = 2 ∷ 1 ∷ 5 ∷ 16 ∷ []

abbrev pub event_field : ℕ → ℕ → ℕ
event_field number k = get_or (fields event_widths number) k 0

abbrev pub event_of : ℕ → Event
event_of number = record { kind = event_field number 0; spare = event_field number 1; host = event_field number 2; word = event_field number 3 }
