-- What the check of `staffed_is_plain` leaves to show.
use Rattle.completion_laws.proofs.PlainCounts.{staffed_is_plain as staffed_is_plain_law}
use Rattle.completion_laws.proofs.staffed_is_plain.Goals as goal

pub returns : goal.returns
returns c = staffed_is_plain_law
