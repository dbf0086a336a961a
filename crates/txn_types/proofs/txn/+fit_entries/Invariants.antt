-- What each turn of the loops of `+fit_entries` keeps.
use Rattle.std.proofs.Common.{length}
use Rattle.txn_types.proofs.txn.+fit_entries.Given as goal

abbrev pub decreases-fit_entries : goal.decreases-fit_entries
decreases-fit_entries l = length l.entries.now
