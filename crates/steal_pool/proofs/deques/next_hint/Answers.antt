-- What the check of `next_hint` leaves to show.
use Rattle.steal_pool.proofs.HintMoves.{takes, pops}
use Rattle.steal_pool.proofs.deques.next_hint.Goals as goal

pub pop_as-requires-clause-fifo : goal.pop_as-requires-clause-fifo
pop_as-requires-clause-fifo g c = λ _. takes g.F.OwnFlags.own _ _ 1

pub pop_as-requires-clause-lifo : goal.pop_as-requires-clause-lifo
pop_as-requires-clause-lifo g c = λ _. pops g.F.OwnFlags.own _ _
