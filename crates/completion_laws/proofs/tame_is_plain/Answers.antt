-- What the check of `tame_is_plain` leaves to show.
use Rattle.completion_laws.proofs.PlainCounts.{tame_is_plain as tame_is_plain_law}
use Rattle.completion_laws.proofs.tame_is_plain.Goals as goal

pub returns : goal.returns
returns c = tame_is_plain_law
