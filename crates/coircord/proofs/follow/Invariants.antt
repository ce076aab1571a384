-- Fewer events are left to take each time. Assumes nothing.
use Rattle.coircord.proofs.follow.Given as goal

abbrev pub decreases-loop-more : goal.decreases-loop-more
decreases-loop-more g l = l.left
