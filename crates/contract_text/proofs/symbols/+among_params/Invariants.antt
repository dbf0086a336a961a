-- What each turn of the loops of `+among_params` keeps.
use Rattle.std.proofs.Common.{length}
use Rattle.contract_text.proofs.symbols.+among_params.Given as goal

abbrev pub decreases-among_params : goal.decreases-among_params
decreases-among_params l = length l.params.now
