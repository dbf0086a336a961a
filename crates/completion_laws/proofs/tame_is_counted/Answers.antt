-- What the check of `tame_is_counted` leaves to show.
use Rattle.completion_laws.proofs.Counted.{tame_is_counted as tame_is_counted_law}
use Rattle.completion_laws.proofs.tame_is_counted.Goals as goal

pub returns : goal.returns
returns c = tame_is_counted_law
