-- What the check of `commits_leave_an_inbox` leaves to show.
use Rattle.newblock_quorum.proofs.NewblockLemmas.{commits_leave_it}
use Rattle.newblock_quorum.proofs.laws.commits_leave_an_inbox.Goals as goal

pub returns : goal.returns
returns c = record { law = commits_leave_it }
