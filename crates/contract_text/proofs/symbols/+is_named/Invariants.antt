-- What each turn of the loops of `+is_named` keeps.
use Rattle.std.proofs.Common.{length}
use Rattle.contract_text.proofs.symbols.+is_named.Given as goal

abbrev pub decreases-is_named : goal.decreases-is_named
decreases-is_named l = length l.names.now
