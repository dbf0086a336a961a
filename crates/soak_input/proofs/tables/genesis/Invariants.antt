-- What each turn of the loops of `genesis` keeps.
use Rattle.std.proofs.Common.{◌≡◌, replicate}
use Rattle.soak_input.proofs.tables.genesis.Given as goal

abbrev pub invariant-loop : goal.invariant-loop
invariant-loop l = l.values ≡ replicate l.counter 1000
