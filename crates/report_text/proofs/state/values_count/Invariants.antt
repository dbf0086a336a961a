-- What each turn of the loops of `values_count` keeps.
use Rattle.std.proofs.Common.{◌≡◌, ◌≤◌, ◌+◌, drop}
use Rattle.oxii_defs.specs.Lines.{values_count}
use Rattle.txn_core.specs.States.{state_of}
use Rattle.report_text.proofs.state.values_count.Given as goal

abbrev pub invariant-loop-i : goal.invariant-loop-i
invariant-loop-i l = record {
  count : l.count + values_count (state_of l.values) l.i (drop l.i l.names) ≡ values_count (state_of l.values) 0 l.names;
  few : l.count ≤ l.i;
}
