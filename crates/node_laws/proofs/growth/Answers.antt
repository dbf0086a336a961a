-- What the check of `growth` leaves to show.
use Rattle.node_laws.proofs.GrowthLaw.{growth as growth_law}
use Rattle.node_laws.proofs.growth.Goals as goal

pub returns : goal.returns
returns c = growth_law
