-- What the check of `read` leaves to show.
use Rattle.contract_reader.proofs.Exactly.{contract_given, fault_given}
use Rattle.contract_reader.proofs.reader.read.Goals as goal

pub returns-clause-contract : goal.returns-clause-contract
returns-clause-contract c = contract_given c.args.text.now c.read_exactly.result c.read_exactly.ensures

pub returns-clause-fault : goal.returns-clause-fault
returns-clause-fault c = fault_given c.args.text.now c.read_exactly.result c.read_exactly.ensures
