-- What the check of `staffed_is_counted` leaves to show.
use Rattle.completion_laws.proofs.Counted.{staffed_is_counted as staffed_is_counted_law}
use Rattle.completion_laws.proofs.staffed_is_counted.Goals as goal

pub returns : goal.returns
returns c = staffed_is_counted_law
