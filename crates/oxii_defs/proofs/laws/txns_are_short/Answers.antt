-- What the check of `txns_are_short` leaves to show.
use Rattle.oxii_defs.proofs.Lengths.{txns_are_short}
use Rattle.oxii_defs.proofs.laws.txns_are_short.Goals as goal

pub returns : goal.returns
returns c = txns_are_short
