-- What each turn of the loops of `first_from` keeps.
use Rattle.std.proofs.Common.{◌≡◌, drop}
use Rattle.dep_graph.specs.Successors.{successors_from}
use Rattle.dep_graph.proofs.walk.first_from.Given as goal

-- no position so far
abbrev pub invariant-loop-j : goal.invariant-loop-j
invariant-loop-j l = successors_from l.t l.start (drop l.start l.graph.preds) ≡ successors_from l.t l.j (drop l.j l.graph.preds)
