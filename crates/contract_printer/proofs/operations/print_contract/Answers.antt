-- What the check of `print_contract` leaves to show.
use Rattle.contract_printer.proofs.Accepted.{if_shortest}
use Rattle.contract_printer.proofs.Reread.{if_read}
use Rattle.contract_printer.proofs.operations.print_contract.Goals as goal

pub returns-clause-shortest : goal.returns-clause-shortest
returns-clause-shortest c = if_shortest _ c.print_ops.result (rw c.as_slice.ensures at c.print_ops.ensures)

pub returns-clause-reads : goal.returns-clause-reads
returns-clause-reads c = if_read _ c.print_ops.result c.requires (rw c.as_slice.ensures at c.print_ops.ensures)
