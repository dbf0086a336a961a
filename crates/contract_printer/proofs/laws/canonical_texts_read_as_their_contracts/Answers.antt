-- What the check of `canonical_texts_read_as_their_contracts` leaves to show.
use Rattle.contract_printer.proofs.Reread.{read_again}
use Rattle.contract_printer.proofs.laws.canonical_texts_read_as_their_contracts.Goals as goal

pub returns : goal.returns
returns c = record { law = read_again }
