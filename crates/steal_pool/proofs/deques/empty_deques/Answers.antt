-- What the check of `empty_deques` leaves to show.
use Rattle.steal_pool.proofs.HintMoves.{begins}
use Rattle.steal_pool.proofs.deques.empty_deques.Goals as goal

pub fifo_as-requires : goal.fifo_as-requires
fifo_as-requires g c = begins g.F.OwnFlags.own
