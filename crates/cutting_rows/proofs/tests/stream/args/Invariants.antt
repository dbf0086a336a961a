-- What each turn of the loops of `args` keeps.
use Rattle.std.specs.List.{All}
use Rattle.node_defs.specs.LawfulItems.{IsRequestArg}
use Rattle.txn_core.specs.MeantTable.{table_of}
use Rattle.cutting_rows.proofs.tests.stream.args.Given as goal

abbrev pub invariant-loop-arg : goal.invariant-loop-arg
invariant-loop-arg l = All (IsRequestArg (table_of l.table)) l.all
