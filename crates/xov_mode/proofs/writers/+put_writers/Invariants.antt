-- What each turn of the loops of `+put_writers` keeps.
use Rattle.std.proofs.Common.{length}
use Rattle.xov_mode.proofs.writers.+put_writers.Given as goal

abbrev pub decreases-put_writers : goal.decreases-put_writers
decreases-put_writers l = length l.writes.now
