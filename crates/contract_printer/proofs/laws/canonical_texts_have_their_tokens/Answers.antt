-- What the check of `canonical_texts_have_their_tokens` leaves to show.
use Rattle.contract_printer.proofs.Reread.{same_tokens}
use Rattle.contract_printer.proofs.laws.canonical_texts_have_their_tokens.Goals as goal

pub returns : goal.returns
returns c = record { law = same_tokens }
