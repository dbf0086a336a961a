-- What the check of `serial_runs_tell_their_gate` leaves to show.
use Rattle.txn_core.specs.MeantTable.{table_of}
use Rattle.txn_rows.proofs.SetLawful.{txns_lawful}
use Rattle.txn_rows.proofs.tests.serial.serial_runs_tell_their_gate.Goals as goal

pub run_serial-requires-clause-lawful : goal.run_serial-requires-clause-lawful
run_serial-requires-clause-lawful g c κs = txns_lawful (table_of c.in_ok-table.table) c.in_ok-table.ensures _ _ _ c.set.ensures c.set-2.ensures c.set-3.ensures
