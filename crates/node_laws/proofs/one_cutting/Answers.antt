-- What the check of `one_cutting` leaves to show.
use Rattle.node_laws.proofs.Cuttings.{one_cutting as one_cutting_law}
use Rattle.node_laws.proofs.one_cutting.Goals as goal

pub returns : goal.returns
returns c = one_cutting_law
