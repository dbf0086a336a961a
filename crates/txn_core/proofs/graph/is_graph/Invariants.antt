-- What each turn of the loops of `is_graph` keeps.
use Rattle.std.proofs.Common.{◌≡◌, ◌↔◌, length, drop}
use Rattle.oxii_defs.specs.Dependency.{graph_of}
use Rattle.txn_core.proofs.graph.is_graph.Given as goal

-- the lists are the graph's where those that are left are
abbrev pub invariant-loop-preds : goal.invariant-loop-preds
invariant-loop-preds l = record {
  same : length l.lists ≡ length l.txns;
  txns : l.earlier.txns ≡ l.txns;
  count : l.earlier.count ≡ l.preds-index;
  left : (l.lists ≡ graph_of l.kind l.txns) ↔ (drop l.preds-index l.lists ≡ drop l.preds-index (graph_of l.kind l.txns));
}
