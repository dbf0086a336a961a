-- What the check of `sentences_have_one_tree` leaves to show.
use Rattle.contract_grammar.proofs.GoesOn.{one_tree}
use Rattle.contract_grammar.proofs.laws.sentences_have_one_tree.Goals as goal

pub returns : goal.returns
returns c = record { law = one_tree }
