-- What each turn of the loops of `+match_all` keeps.
use Rattle.std.proofs.Common.{length}
use Rattle.txn_core.proofs.check.+match_all.Given as goal

abbrev pub decreases-match_all : goal.decreases-match_all
decreases-match_all l = length l.params.now
