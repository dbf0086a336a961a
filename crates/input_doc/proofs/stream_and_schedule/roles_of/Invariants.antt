-- What each turn of the loops of `roles_of` keeps.
use Rattle.std.proofs.Common.{◌≡◌, ◌++◌, drop}
use Rattle.txn_core.specs.MeantTable.{table_of}
use Rattle.input_doc.specs.Reading.{roles_of}
use Rattle.input_doc.proofs.stream_and_schedule.roles_of.Given as goal

abbrev pub invariant-loop-item : goal.invariant-loop-item
invariant-loop-item l = l.roles ++ roles_of (table_of l.table) (drop l.item-index l.items) ≡ roles_of (table_of l.table) l.items
