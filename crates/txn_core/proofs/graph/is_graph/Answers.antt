-- What the check of `is_graph` leaves to show.
use Rattle.std.proofs.Common.{◌<◌, ◌+◌, List, [], length, refl, sym, ap, ◌∙◌, arith}
use Rattle.std.specs.List.{slice_index_or}
use Rattle.std.proofs.lemmas.List.{drop_all, get_or_default}
use Rattle.oxii_defs.specs.Dependency.{graph_of}
use Rattle.txn_types.specs.declared.txn.Txn.{Txn}
use Rattle.txn_core.proofs.GraphLemmas.{length-graph_of, lists_more}
use Rattle.txn_core.proofs.graph.is_graph.Goals as goal

pub returns-then-lists-txns : goal.returns-then-lists-txns
returns-then-lists-txns c = (λ h. cc, λ same. absurd (omega (arith, ap length same, length-graph_of c.args.kind c.args.txns.now)))

pub loop-preds-preserved : goal.loop-preds-preserved
loop-preds-preserved c =
    let lists = c.args.lists.now in
    let graph = graph_of c.args.kind c.args.txns.now in
    let i = c.loop-preds.preds-index in
    let inv = c.loop-preds.invariant in
    let within : i < length lists = omega arith in
    let listed = get_or_default lists i [] c.preds-item.result within ∙ sym c.preds-item.is ∙ sym c.as_slice.ensures ∙ c.are_left.ensures.0 c.if-not-are_left.false ∙ c.preds.ensures in
    let same = listed ∙ ap (λ (txns : List Txn). slice_index_or (graph_of c.args.kind txns) c.loop-preds.earlier.count []) inv.txns ∙ ap (λ n. slice_index_or graph n []) inv.count in
    let next = lists_more lists graph i within (omega (arith, within, inv.same, length-graph_of c.args.kind c.args.txns.now)) same in
    record {
      same = inv.same;
      txns = c.step.ensures.txns ∙ inv.txns;
      count = c.step.ensures.count ∙ ap (λ n. n + 1) inv.count;
      left = (λ e. next.0 (inv.left.0 e), λ e. inv.left.1 (next.1 e));
    }

pub returns : goal.returns
returns c =
    let lists = c.args.lists.now in
    let graph = graph_of c.args.kind c.args.txns.now in
    let i = c.loop-preds.preds-index in
    let inv = c.loop-preds.invariant in
    (λ h. inv.left.1 (drop_all i lists (omega arith) ∙ sym (drop_all i graph (omega (arith, inv.same, length-graph_of c.args.kind c.args.txns.now)))), λ same. refl)
