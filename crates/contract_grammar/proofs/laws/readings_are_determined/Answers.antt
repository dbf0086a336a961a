-- What the check of `readings_are_determined` leaves to show.
use Rattle.contract_grammar.proofs.Determined.{reading_is}
use Rattle.contract_grammar.proofs.laws.readings_are_determined.Goals as goal

pub returns : goal.returns
returns c = record { law = reading_is }
