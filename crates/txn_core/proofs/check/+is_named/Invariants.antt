-- What each turn of the loops of `+is_named` keeps.
use Rattle.std.proofs.Common.{length}
use Rattle.txn_core.proofs.check.+is_named.Given as goal

abbrev pub decreases-is_named : goal.decreases-is_named
decreases-is_named l = length l.names.now
