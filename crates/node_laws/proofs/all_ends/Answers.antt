-- What the check of `all_ends` leaves to show.
use Rattle.node_laws.proofs.Ends.{all_ends as all_ends_law}
use Rattle.node_laws.proofs.all_ends.Goals as goal

pub returns : goal.returns
returns c = all_ends_law
