-- What is read so far are the input's next bytes, no more than were asked for. Assumes nothing.
use Rattle.std.proofs.Common.{◌≤◌, take}
use Rattle.std.specs.Io.KnownBytes.{Consumes}
use Rattle.coircord.proofs.input.Input.read.Given as goal

abbrev pub invariant-loop : goal.invariant-loop
invariant-loop g l = record {
  most : l.self.got ≤ l.end;
  bytes : Consumes (g.R.Read.remaining l.initial.self.from) (g.R.Read.remaining l.self.from) (take l.self.got l.self.buffer);
}
