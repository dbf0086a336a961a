-- What each turn of the loops of `build` keeps.
use Rattle.std.proofs.Common.{◌≡◌, take, length}
use Rattle.oxii_defs.specs.Dependency.{graph_of}
use Rattle.dep_graph.proofs.built.build.Given as goal

-- the lists so far are the graph's first
abbrev pub invariant-loop : goal.invariant-loop
invariant-loop l = record {
  txns : l.earlier.txns ≡ l.block.txns;
  end : l.end ≡ length l.block.txns;
  count : l.earlier.count ≡ l.counter;
  lists : l.lists ≡ take l.counter (graph_of l.kind l.block.txns);
}
