-- What each turn of the loops of `items` keeps.
use Rattle.std.specs.List.{All}
use Rattle.node_defs.specs.LawfulItems.{IsLawfulItem}
use Rattle.txn_core.specs.MeantTable.{table_of}
use Rattle.cutting_rows.proofs.tests.stream.items.Given as goal

abbrev pub invariant-loop : goal.invariant-loop
invariant-loop l = All (IsLawfulItem (table_of l.table)) l.items
