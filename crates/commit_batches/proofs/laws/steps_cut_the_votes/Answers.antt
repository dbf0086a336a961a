-- What the check of `steps_cut_the_votes` leaves to show.
use Rattle.commit_batches.proofs.CutLemmas.{whole, open_part}
use Rattle.commit_batches.proofs.laws.steps_cut_the_votes.Goals as goal

pub returns : goal.returns
returns c = record { law = record { whole = whole; open_part = open_part } }
