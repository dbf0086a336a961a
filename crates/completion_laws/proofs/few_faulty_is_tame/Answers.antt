-- What the check of `few_faulty_is_tame` leaves to show.
use Rattle.completion_laws.proofs.PlainCounts.{few_faulty_is_tame as few_faulty_is_tame_law}
use Rattle.completion_laws.proofs.few_faulty_is_tame.Goals as goal

pub returns : goal.returns
returns c = few_faulty_is_tame_law
