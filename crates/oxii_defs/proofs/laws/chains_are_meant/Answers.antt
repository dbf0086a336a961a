-- What the check of `chains_are_meant` leaves to show.
use Rattle.oxii_defs.proofs.Chains.{chains_meant}
use Rattle.oxii_defs.proofs.laws.chains_are_meant.Goals as goal

pub returns : goal.returns
returns c = chains_meant
