-- What each turn of the loops of `+put_more` keeps.
use Rattle.std.proofs.Common.{length}
use Rattle.contract_printer.proofs.operations.+put_more.Given as goal

abbrev pub decreases-put_more : goal.decreases-put_more
decreases-put_more l = length l.params.now
