-- What each turn of the loops of `empty_deques` keeps.
use Rattle.std.proofs.Common.{◌≡◌, length}
use Rattle.steal_pool.proofs.deques.empty_deques.Given as goal

abbrev pub invariant-loop : goal.invariant-loop
invariant-loop g l = length l.deques.items ≡ l.counter
