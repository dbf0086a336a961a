-- What each turn of the loops of `+all_differ` keeps.
use Rattle.std.proofs.Common.{length}
use Rattle.txn_core.proofs.check.+all_differ.Given as goal

abbrev pub decreases-all_differ : goal.decreases-all_differ
decreases-all_differ l = length l.params.now
