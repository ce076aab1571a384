-- What private functions ask of a frame: this definition serves the crate, and no promise of a call names it.
use Rattle.std.specs.Prelude.{◌≤◌, ◌<◌}
use Rattle.frame.specs.declared.Frame.{Frame}

-- every field of a frame in its range
pub record Told (f : Frame) : Type 0 where
  pub kind : f.kind < 2
  pub round_low : 1 ≤ f.round
  pub round_high : f.round ≤ 16
  pub phase_low : 1 ≤ f.phase
  pub phase_high : f.phase ≤ 2
  pub stage : f.stage < 2
  pub value : f.value < 3
  pub sender : f.sender < 32
