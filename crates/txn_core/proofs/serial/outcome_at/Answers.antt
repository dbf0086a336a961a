-- What the check of `outcome_at` leaves to show.
use Rattle.std.proofs.Common.{◌∙◌, sym, ap}
use Rattle.oxii_defs.specs.Table.{body_of}
use Rattle.oxii_defs.specs.Outcomes.{outcome}
use Rattle.txn_core.specs.MeantTable.{table_of}
use Rattle.txn_core.specs.States.{state_of}
use Rattle.txn_core.proofs.StateLemmas.{values_of_state}
use Rattle.oxii_defs.proofs.Lawful.{op_well_formed}
use Rattle.txn_core.proofs.serial.outcome_at.Goals as goal

pub run_txn-requires-clause-well_formed : goal.run_txn-requires-clause-well_formed
run_txn-requires-clause-well_formed c = op_well_formed (table_of c.args.table.now) c.args.txn.now _ c.requires.table c.op_named-op.ensures

pub returns-clause-outcome : goal.returns-clause-outcome
returns-clause-outcome c =
    c.run_txn.ensures.meaning (state_of c.args.values.now) (values_of_state c.args.values.now c.args.txn.now.reads ∙ sym c.inputs_of-inputs.ensures.inputs)
    ∙ ap (λ o. outcome (body_of o) c.args.txn.now (state_of c.args.values.now)) (sym c.op_named-op.ensures)
