-- What each turn of the loops of `+earliest` keeps.
use Rattle.std.proofs.Common.{length}
use Rattle.xov_mode.proofs.writers.+earliest.Given as goal

abbrev pub decreases-earliest : goal.decreases-earliest
decreases-earliest l = length l.reads.now
