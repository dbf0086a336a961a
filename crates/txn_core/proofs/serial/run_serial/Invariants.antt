-- What each turn of the loops of `run_serial` keeps.
use Rattle.std.proofs.Common.{◌≡◌, ◌++◌, length, drop}
use Rattle.oxii_defs.specs.SerialPart.{serial_state, serial_outcomes}
use Rattle.txn_core.specs.MeantTable.{table_of}
use Rattle.txn_core.specs.States.{state_of}
use Rattle.txn_core.proofs.serial.run_serial.Given as goal

abbrev pub invariant-loop-txn : goal.invariant-loop-txn
invariant-loop-txn g l = record {
  outcomes : l.outcomes ++ serial_outcomes (table_of l.table) (state_of l.values) (drop l.txn-index l.txns)
      ≡ serial_outcomes (table_of l.table) (state_of l.initial.values) l.txns;
  state : serial_state (table_of l.table) (state_of l.values) (drop l.txn-index l.txns)
      ≡ serial_state (table_of l.table) (state_of l.initial.values) l.txns;
  length : length l.values ≡ length l.initial.values;
  count : l.t ≡ l.txn-index;
}
