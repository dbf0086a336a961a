-- What each turn of the loops of `+are_left` keeps.
use Rattle.std.proofs.Common.{length}
use Rattle.txn_core.proofs.graph.+are_left.Given as goal

abbrev pub decreases-are_left : goal.decreases-are_left
decreases-are_left l = length l.preds.now
