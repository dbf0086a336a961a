-- What each turn of the loops of `+is_param` keeps.
use Rattle.std.proofs.Common.{length}
use Rattle.txn_core.proofs.check.+is_param.Given as goal

abbrev pub decreases-is_param : goal.decreases-is_param
decreases-is_param l = length l.params.now
