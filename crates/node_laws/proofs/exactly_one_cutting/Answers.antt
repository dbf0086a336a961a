-- What the check of `exactly_one_cutting` leaves to show.
use Rattle.node_laws.proofs.ExactlyOne.{exactly_one_cutting as exactly_one_cutting_law}
use Rattle.node_laws.proofs.exactly_one_cutting.Goals as goal

pub returns : goal.returns
returns c = exactly_one_cutting_law
