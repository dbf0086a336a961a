-- What the check of `senders_stay` leaves to show.
use Rattle.counting_laws.proofs.Firsts.{senders_stay}
use Rattle.counting_laws.proofs.laws.senders_stay.Goals as goal

pub returns : goal.returns
returns g c = record { law = senders_stay }
