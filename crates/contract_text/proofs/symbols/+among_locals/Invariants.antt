-- What each turn of the loops of `+among_locals` keeps.
use Rattle.std.proofs.Common.{length}
use Rattle.contract_text.proofs.symbols.+among_locals.Given as goal

abbrev pub decreases-among_locals : goal.decreases-among_locals
decreases-among_locals l = length l.locals.now
