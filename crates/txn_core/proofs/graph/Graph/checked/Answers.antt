-- What the check of `Graph::checked` leaves to show.
use Rattle.std.proofs.Common.{length, sym, ◌∙◌, ap, subst, arith}
use Rattle.txn_core.specs.Graphs.{ArePreds}
use Rattle.txn_core.proofs.GraphLemmas.{graph_preds}
use Rattle.txn_core.proofs.graph.Graph.checked.Goals as goal

pub invariant_of-result : goal.invariant_of-result
invariant_of-result c =
    let is = c.is_graph.ensures.0 c.if-not-is_graph.false in
    subst ArePreds (sym is ∙ c.as_slice-2.ensures)
    (graph_preds c.args.kind c.as_slice.result.now (omega (arith, c.requires, ap length c.as_slice.ensures)))
