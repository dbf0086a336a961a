-- What the check of `accepted_contracts_are_lawful` leaves to show.
use Rattle.contract_text.proofs.Accepted.{accepted_lawful}
use Rattle.contract_text.proofs.laws.accepted_contracts_are_lawful.Goals as goal

pub returns : goal.returns
returns c = record { law = accepted_lawful }
