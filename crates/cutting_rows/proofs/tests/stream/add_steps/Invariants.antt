-- What each turn of the loops of `add_steps` keeps.
use Rattle.std.specs.List.{All}
use Rattle.node_defs.specs.LawfulItems.{IsLawfulItem}
use Rattle.txn_core.specs.MeantTable.{table_of}
use Rattle.cutting_rows.proofs.tests.stream.add_steps.Given as goal

abbrev pub invariant-loop-step : goal.invariant-loop-step
invariant-loop-step l = All (IsLawfulItem (table_of l.table)) l.items
