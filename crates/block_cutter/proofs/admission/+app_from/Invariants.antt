-- What each turn of the loops of `+app_from` keeps.
use Rattle.std.proofs.Common.{length}
use Rattle.block_cutter.proofs.admission.+app_from.Given as goal

abbrev pub decreases-app_from : goal.decreases-app_from
decreases-app_from l = length l.apps.now
