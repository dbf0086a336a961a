-- What the check of `knows_preds` leaves to show.
use Rattle.std.proofs.Common.{◌<◌, length, [], List, ℕ, ◌∙◌, ap, arith}
use Rattle.std.specs.List.{slice_index_or}
use Rattle.txn_core.proofs.GraphLemmas.{length-graph_of}
use Rattle.dep_graph.proofs.KnownLemmas.{known_preds}
use Rattle.dep_graph.proofs.known.knows_preds.Goals as goal

pub returns : goal.returns
returns c =
    let txns = c.args.block.now.txns in
    let graph = c.args.graph.now in
    let t = c.args.t in
    let within : t < length txns = omega (arith, c.requires.position, ap length c.requires.graph, length-graph_of graph.kind txns) in
    let listed = c.preds.ensures.list ∙ ap (λ (lists : List (List ℕ)). slice_index_or lists t []) c.requires.graph in
    c.are_known.ensures ∙ known_preds graph.kind txns t c.args.known.now c.preds.result.now within c.requires.earlier listed
