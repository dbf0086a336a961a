-- What each turn of the loops of `push_entries` keeps.
use Rattle.std.proofs.Common.{◌≡◌, ◌++◌, length}
use Rattle.std.specs.List.{AllByRecursion}
use Rattle.oxii_defs.specs.Lawful.{IsRecord}
use Rattle.oxii_defs.specs.Lines.{entries_text}
use Rattle.txn_core.specs.MeantTable.{table_of}
use Rattle.report_text.proofs.lines.push_entries.Given as goal

abbrev pub invariant-loop-records : goal.invariant-loop-records
invariant-loop-records l = record {
  text : l.text ++ entries_text (table_of l.table) l.records l.entries ≡ l.initial.text ++ entries_text (table_of l.table) l.initial.records l.initial.entries;
  known : AllByRecursion (IsRecord (table_of l.table)) l.records;
}

abbrev pub decreases-loop-records : goal.decreases-loop-records
decreases-loop-records l = length l.records
