-- What the check of `conflict_order` leaves to show.
use Rattle.node_laws.proofs.Conflicts.{conflict_order as conflict_order_law}
use Rattle.node_laws.proofs.conflict_order.Goals as goal

pub returns : goal.returns
returns c = conflict_order_law
