-- What each turn of the loops of `another_follows` keeps.
use Rattle.std.proofs.Common.{◌≡◌, drop}
use Rattle.node_defs.specs.Sent.{other_app_follows}
use Rattle.dep_graph.proofs.follow.another_follows.Given as goal

-- none so far
abbrev pub invariant-loop-j : goal.invariant-loop-j
invariant-loop-j l =
    other_app_follows l.t l.app (drop l.j l.graph.preds) (drop l.j l.txns) ≡ other_app_follows l.t l.app l.graph.preds l.txns
