-- What the check of `the_contract_is_pay` leaves to show.
use Rattle.soak_input.proofs.PayMeant.{the_contract}
use Rattle.soak_input.proofs.laws.the_contract_is_pay.Goals as goal

pub returns : goal.returns
returns c = record { law = the_contract }
