-- What each turn of the loops of `+stands_in` keeps.
use Rattle.std.proofs.Common.{length}
use Rattle.txn_core.proofs.graph.+stands_in.Given as goal

abbrev pub decreases-stands_in : goal.decreases-stands_in
decreases-stands_in l = length l.ys.now
