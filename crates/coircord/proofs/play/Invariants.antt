-- Fewer events are left to play each time. Assumes nothing.
use Rattle.std.proofs.Common.{length}
use Rattle.coircord.proofs.play.Given as goal

abbrev pub decreases-loop-played : goal.decreases-loop-played
decreases-loop-played g l = length l.events
