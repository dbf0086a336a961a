-- What the check of `tokens_are_meant` leaves to show.
use Rattle.contract_grammar.proofs.TokensMeant.{tokens_meant}
use Rattle.contract_grammar.proofs.laws.tokens_are_meant.Goals as goal

pub returns : goal.returns
returns c = record { law = tokens_meant }
