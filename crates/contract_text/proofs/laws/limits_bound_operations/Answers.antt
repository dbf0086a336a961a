-- What the check of `limits_bound_operations` leaves to show.
use Rattle.contract_text.proofs.Bounds.{operations_bounded}
use Rattle.contract_text.proofs.laws.limits_bound_operations.Goals as goal

pub returns : goal.returns
returns c = record { law = operations_bounded }
