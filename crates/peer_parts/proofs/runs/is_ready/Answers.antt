-- What the check of `is_ready` leaves to show.
use Rattle.std.proofs.Common.{length, ap, arith}
use Rattle.txn_core.proofs.GraphLemmas.{length-graph_of}
use Rattle.peer_parts.proofs.runs.is_ready.Goals as goal

pub knows_preds-requires-clause-position : goal.knows_preds-requires-clause-position
knows_preds-requires-clause-position c =
    let k = c.args.task.now in
    omega (arith, c.requires.place, ap length c.requires.task.graph, length-graph_of k.graph.now.kind k.block.now.txns)
