-- What each turn of the loops of `has_lists` keeps.
use Rattle.std.proofs.Common.{◌≡◌, ◌↔◌, length, drop}
use Rattle.newblock_quorum.proofs.lists.has_lists.Given as goal

-- the lists are the graph's where those that are left are
abbrev pub invariant-loop-t : goal.invariant-loop-t
invariant-loop-t l = record {
  same : length l.lists ≡ length l.graph.preds;
  left : (l.lists ≡ l.graph.preds) ↔ (drop l.t l.lists ≡ drop l.t l.graph.preds);
}
