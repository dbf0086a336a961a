-- What each turn of the loops of `+op_from` keeps.
use Rattle.std.proofs.Common.{length}
use Rattle.block_cutter.proofs.admission.+op_from.Given as goal

abbrev pub decreases-op_from : goal.decreases-op_from
decreases-op_from l = length l.ops.now
