-- The calls on frames for other languages.
use Rattle.std.specs.Prelude.{ℕ, ◌≡◌}
use Rattle.frame.specs.Frame.{unpacking, packing}
use Rattle.frame.specs.declared.Frame.{Frame}
use Rattle.calls.specs.Flat.{flat}
use Rattle.calls.specs.declared.frames.FrameAnswer.{FrameAnswer}
use Rattle.calls.specs.declared.frames.WordAnswer.{WordAnswer}

-- the frame beside a refusal
abbrev pub no_frame : Frame
no_frame = record { kind = 0; round = 0; phase = 0; stage = 0; value = 0; sender = 0 }

-- the promise of `coircord_unpack`
abbrev pub UnpacksFlat : ℕ → FrameAnswer → Type 0
UnpacksFlat word answer = ◌≡◌ {A = ℕ × Frame} (answer.refused, answer.frame) (flat no_frame (unpacking word))

-- the promise of `coircord_pack`
abbrev pub PacksFlat : Frame → WordAnswer → Type 0
PacksFlat frame answer = ◌≡◌ {A = ℕ × ℕ} (answer.refused, answer.word) (flat 0 (packing frame))
