-- What each turn of the loops of `push_afters` keeps.
use Rattle.std.proofs.Common.{◌≡◌, ◌+◌, ◌++◌, drop}
use Rattle.node_defs.specs.GraphText.{after_lines}
use Rattle.txn_core.specs.MeantTable.{table_of}
use Rattle.report_text.proofs.graph.push_afters.Given as goal

abbrev pub invariant-loop-i : goal.invariant-loop-i
invariant-loop-i l =
    l.text ++ after_lines (table_of l.table) (l.i + 1) (drop l.i l.txns) (drop l.i l.graph.preds)
    ≡ l.initial.text ++ after_lines (table_of l.table) 1 l.txns l.graph.preds
