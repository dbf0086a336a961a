-- What the check of `canonical_texts_are_shortest` leaves to show.
use Rattle.contract_printer.proofs.Accepted.{canonical_shortest}
use Rattle.contract_printer.proofs.laws.canonical_texts_are_shortest.Goals as goal

pub returns : goal.returns
returns c = record { law = canonical_shortest }
