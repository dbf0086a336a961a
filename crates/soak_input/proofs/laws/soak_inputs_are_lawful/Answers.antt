-- What the check of `soak_inputs_are_lawful` leaves to show.
use Rattle.soak_input.proofs.MadeLawful.{made_lawful}
use Rattle.soak_input.proofs.laws.soak_inputs_are_lawful.Goals as goal

pub returns : goal.returns
returns c = record { law = made_lawful }
