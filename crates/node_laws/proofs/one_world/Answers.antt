-- What the check of `one_world` leaves to show.
use Rattle.node_laws.proofs.Ends.{one_world as one_world_law}
use Rattle.node_laws.proofs.one_world.Goals as goal

pub returns : goal.returns
returns c = one_world_law
