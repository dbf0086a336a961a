-- What the check of `readings_are_meant` leaves to show.
use Rattle.contract_grammar.proofs.Meaning.{reading_means}
use Rattle.contract_grammar.proofs.laws.readings_are_meant.Goals as goal

pub returns : goal.returns
returns c = record { law = reading_means }
