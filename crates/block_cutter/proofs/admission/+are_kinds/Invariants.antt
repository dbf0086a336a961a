-- What each turn of the loops of `+are_kinds` keeps.
use Rattle.std.proofs.Common.{length}
use Rattle.block_cutter.proofs.admission.+are_kinds.Given as goal

abbrev pub decreases-are_kinds : goal.decreases-are_kinds
decreases-are_kinds l = length l.params.now
