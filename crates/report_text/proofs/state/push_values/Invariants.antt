-- What each turn of the loops of `push_values` keeps.
use Rattle.std.proofs.Common.{◌≡◌, ◌++◌, drop}
use Rattle.oxii_defs.specs.Lines.{value_lines}
use Rattle.txn_core.specs.States.{state_of}
use Rattle.report_text.proofs.state.push_values.Given as goal

abbrev pub invariant-loop-i : goal.invariant-loop-i
invariant-loop-i l = l.text ++ value_lines (state_of l.values) l.i (drop l.i l.names) ≡ l.initial.text ++ value_lines (state_of l.values) 0 l.names
