-- What the check of `agreement` leaves to show.
use Rattle.node_laws.proofs.AgreeWorld.{agreement as agreement_law}
use Rattle.node_laws.proofs.agreement.Goals as goal

pub returns : goal.returns
returns c = agreement_law
