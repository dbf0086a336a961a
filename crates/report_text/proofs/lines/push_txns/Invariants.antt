-- What each turn of the loops of `push_txns` keeps.
use Rattle.std.proofs.Common.{◌≡◌, ◌+◌, ◌++◌, drop}
use Rattle.oxii_defs.specs.Lines.{txn_lines}
use Rattle.txn_core.specs.MeantTable.{table_of}
use Rattle.report_text.proofs.lines.push_txns.Given as goal

abbrev pub invariant-loop-i : goal.invariant-loop-i
invariant-loop-i l =
    l.text ++ txn_lines (table_of l.table) (l.i + 1) (drop l.i l.txns) (drop l.i l.outcomes)
    ≡ l.initial.text ++ txn_lines (table_of l.table) 1 l.txns l.outcomes
