-- What the check of `soak_input` leaves to show.
use Rattle.txn_core.specs.MeantTable.{table_of}
use Rattle.soak_input.proofs.MadeLawful.{made_lawful}
use Rattle.soak_input.proofs.MadeWhole.{made_of}
use Rattle.soak_input.proofs.soak.soak_input.Goals as goal

pub returns-clause-made : goal.returns-clause-made
returns-clause-made c =
    made_of (table_of c.in_ok-table.field-0) c.in_ok-genesis.field-0 c.in_ok-stream.field-0 c.empty.result c.in_ok-schedule.field-0 c.args.seed c.args.txns
    c.in_ok-table.ensures c.in_ok-genesis.ensures c.in_ok-stream.ensures c.empty.ensures c.in_ok-schedule.ensures

pub returns-clause-lawful : goal.returns-clause-lawful
returns-clause-lawful c =
    made_lawful c.args.seed c.args.txns _ c.requires.txns.1
    (made_of (table_of c.in_ok-table.field-0) c.in_ok-genesis.field-0 c.in_ok-stream.field-0 c.empty.result c.in_ok-schedule.field-0 c.args.seed c.args.txns
    c.in_ok-table.ensures c.in_ok-genesis.ensures c.in_ok-stream.ensures c.empty.ensures c.in_ok-schedule.ensures)
