-- What the check of `nobody_faulty_is_staffed` leaves to show.
use Rattle.completion_laws.proofs.PlainCounts.{nobody_faulty_is_staffed as nobody_faulty_is_staffed_law}
use Rattle.completion_laws.proofs.nobody_faulty_is_staffed.Goals as goal

pub returns : goal.returns
returns c = nobody_faulty_is_staffed_law
