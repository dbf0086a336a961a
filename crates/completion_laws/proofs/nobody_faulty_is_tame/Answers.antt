-- What the check of `nobody_faulty_is_tame` leaves to show.
use Rattle.completion_laws.proofs.PlainCounts.{nobody_faulty_is_tame as nobody_faulty_is_tame_law}
use Rattle.completion_laws.proofs.nobody_faulty_is_tame.Goals as goal

pub returns : goal.returns
returns c = nobody_faulty_is_tame_law
