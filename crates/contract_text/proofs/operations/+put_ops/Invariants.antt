-- What each turn of the loops of `+put_ops` keeps.
use Rattle.std.proofs.Common.{length}
use Rattle.contract_text.proofs.operations.+put_ops.Given as goal

abbrev pub decreases-put_ops : goal.decreases-put_ops
decreases-put_ops l = length l.raw.now
