-- What the check of `contracts_have_one_canonical_text` leaves to show.
use Rattle.contract_printer.proofs.Accepted.{one_text}
use Rattle.contract_printer.proofs.laws.contracts_have_one_canonical_text.Goals as goal

pub returns : goal.returns
returns c = record { law = one_text }
