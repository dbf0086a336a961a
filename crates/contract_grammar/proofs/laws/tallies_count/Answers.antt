-- What the check of `tallies_count` leaves to show.
use Rattle.contract_grammar.proofs.Tallies.{tallies_count}
use Rattle.contract_grammar.proofs.laws.tallies_count.Goals as goal

pub returns : goal.returns
returns c = record { law = tallies_count }
