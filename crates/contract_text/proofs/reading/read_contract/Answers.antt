-- What the check of `read_contract` leaves to show.
use Rattle.std.proofs.Common.{sym}
use Rattle.contract_text.proofs.Judged.{given_contract, given_fault, given_fine, given_names, given_count}
use Rattle.contract_text.proofs.Accepted.{given_lawful}
use Rattle.contract_text.proofs.reading.read_contract.Goals as goal

pub returns-clause-fine : goal.returns-clause-fine
returns-clause-fine c = given_fine c.as_bytes.result.now c.read_exactly.result c.read_exactly.ensures

pub returns-clause-names : goal.returns-clause-names
returns-clause-names c = given_names c.as_bytes.result.now c.read_exactly.result c.read_exactly.ensures

pub returns-clause-count : goal.returns-clause-count
returns-clause-count c = given_count c.as_bytes.result.now c.read_exactly.result c.read_exactly.ensures

pub returns-clause-contract : goal.returns-clause-contract
returns-clause-contract c = rw (sym c.as_bytes.ensures.value) (given_contract c.as_bytes.result.now c.read_exactly.result c.read_exactly.ensures)

pub returns-clause-fault : goal.returns-clause-fault
returns-clause-fault c = rw (sym c.as_bytes.ensures.value) (given_fault c.as_bytes.result.now c.read_exactly.result c.read_exactly.ensures)

pub returns-clause-lawful : goal.returns-clause-lawful
returns-clause-lawful c = given_lawful c.as_bytes.result.now c.read_exactly.result c.read_exactly.ensures
