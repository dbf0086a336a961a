-- What each turn of the loops of `+find_params` keeps.
use Rattle.std.proofs.Common.{length}
use Rattle.contract_text.proofs.operations.+find_params.Given as goal

abbrev pub decreases-find_params : goal.decreases-find_params
decreases-find_params l = length l.params.now
