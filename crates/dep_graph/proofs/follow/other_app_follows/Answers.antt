-- What the check of `other_app_follows` leaves to show.
use Rattle.std.proofs.Common.{◌<◌, ◌∙◌, List, length, ap, sym, arith}
use Rattle.std.proofs.lemmas.List.{get_or_default}
use Rattle.txn_types.specs.declared.txn.Txn.{Txn}
use Rattle.known_defs.specs.Known.{no_txn, txn_at}
use Rattle.node_defs.specs.Sent.{other_app_follows}
use Rattle.txn_core.proofs.GraphLemmas.{length-graph_of}
use Rattle.oxii_defs.specs.Dependency.{graph_of}
use Rattle.dep_graph.proofs.follow.other_app_follows.Goals as goal

pub bounds-txns-t : goal.bounds-txns-t
bounds-txns-t c = omega (arith, c.requires.position, ap length c.requires.graph, length-graph_of c.args.graph.now.kind c.args.block.now.txns, ap length c.as_slice-txns.ensures)

pub bounds-txns-t-2 : goal.bounds-txns-t-2
bounds-txns-t-2 c = omega (arith, c.requires.position, ap length c.requires.graph, length-graph_of c.args.graph.now.kind c.args.block.now.txns, ap length c.as_slice-txns.ensures)

pub another_follows-requires-clause-places : goal.another_follows-requires-clause-places
another_follows-requires-clause-places c = omega (arith, ap length c.requires.graph, length-graph_of c.args.graph.now.kind c.args.block.now.txns, ap length c.as_slice-txns.ensures)

pub another_follows-requires-clause-graph : goal.another_follows-requires-clause-graph
another_follows-requires-clause-graph c = c.requires.graph ∙ ap (graph_of c.args.graph.now.kind) (sym c.as_slice-txns.ensures)

pub returns : goal.returns
returns c =
    let t = c.args.t in
    let txns = c.as_slice-txns.result.now in
    let preds = c.args.graph.now.preds in
    let within : t < length txns = omega (arith, c.requires.position, ap length c.requires.graph, length-graph_of c.args.graph.now.kind c.args.block.now.txns, ap length c.as_slice-txns.ensures) in
    c.another_follows.ensures
    ∙ ap (λ (txn : Txn). other_app_follows t txn.app preds txns) (get_or_default txns t c.index-txns-t.result no_txn within)
    ∙ ap (λ (l : List Txn). other_app_follows t (txn_at l t).app preds l) c.as_slice-txns.ensures
