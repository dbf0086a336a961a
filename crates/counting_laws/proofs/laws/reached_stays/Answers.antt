-- What the check of `reached_stays` leaves to show.
use Rattle.node_defs.proofs.CountingLemmas.{reached_stays}
use Rattle.counting_laws.proofs.laws.reached_stays.Goals as goal

pub returns : goal.returns
returns g c = record { law = reached_stays }
