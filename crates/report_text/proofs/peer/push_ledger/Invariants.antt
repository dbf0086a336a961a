-- What each turn of the loops of `push_ledger` keeps.
use Rattle.std.proofs.Common.{◌≡◌, ◌++◌, drop}
use Rattle.std.specs.List.{flat_map}
use Rattle.oxii_defs.specs.Lines.{entry_lines}
use Rattle.txn_core.specs.MeantTable.{table_of}
use Rattle.hash_ledger.specs.Ledgers.{entries_of}
use Rattle.report_text.proofs.peer.push_ledger.Given as goal

abbrev pub invariant-loop-i : goal.invariant-loop-i
invariant-loop-i l =
    l.text ++ flat_map (entry_lines (table_of l.table)) (drop l.i (entries_of l.ledger))
    ≡ l.initial.text ++ flat_map (entry_lines (table_of l.table)) (entries_of l.ledger)
