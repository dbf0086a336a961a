-- What the check of `build` leaves to show.
use Rattle.std.proofs.Common.{◌<◌, ◌+◌, ◌++◌, ◌∷◌, ℕ, List, [], length, sym, ap, subst, ◌∙◌, arith}
use Rattle.std.specs.List.{slice_index_or}
use Rattle.std.proofs.lemmas.List.{take_all, take_more}
use Rattle.txn_types.specs.declared.txn.Txn.{Txn}
use Rattle.oxii_defs.specs.Dependency.{graph_of}
use Rattle.txn_core.specs.Graphs.{ArePreds}
use Rattle.txn_core.proofs.GraphLemmas.{graph_preds, length-graph_of}
use Rattle.dep_graph.proofs.built.build.Goals as goal

pub loop-preserved : goal.loop-preserved
loop-preserved c =
    let kind = c.args.kind in
    let graph = graph_of kind c.args.block.now.txns in
    let i = c.loop.counter in
    let inv = c.loop.invariant in
    let within : i < length graph = omega (arith, c.loop-test.true, inv.end, length-graph_of kind c.args.block.now.txns) in
    let listed =
    c.in_ok-list_of.ensures ∙ c.preds.ensures ∙ ap (λ (txns : List Txn). slice_index_or (graph_of kind txns) c.loop.earlier.count []) inv.txns
    ∙ ap (λ n. slice_index_or graph n []) inv.count in
    record {
      txns = c.step.ensures.txns ∙ inv.txns;
      end = inv.end;
      count = c.step.ensures.count ∙ ap (λ n. n + 1) inv.count;
      lists =
          c.in_ok-push.ensures.ok ∙ ap (λ (l : List ℕ). c.loop.lists ++ l ∷ []) listed ∙ ap (λ (ls : List (List ℕ)). ls ++ slice_index_or graph i [] ∷ []) inv.lists
          ∙ sym (take_more graph i [] within);
    }

pub new-requires : goal.new-requires
new-requires c =
    let graph = graph_of c.args.kind c.args.block.now.txns in
    let inv = c.loop.invariant in
    let all = inv.lists ∙ take_all c.loop.counter graph (omega (arith, c.loop-test.false, inv.end, length-graph_of c.args.kind c.args.block.now.txns)) in
    subst ArePreds (sym all) (graph_preds c.args.kind c.args.block.now.txns c.requires)

pub returns-clause-lists : goal.returns-clause-lists
returns-clause-lists c =
    let graph = graph_of c.args.kind c.args.block.now.txns in
    let inv = c.loop.invariant in
    c.new.ensures.lists ∙ inv.lists ∙ take_all c.loop.counter graph (omega (arith, c.loop-test.false, inv.end, length-graph_of c.args.kind c.args.block.now.txns))
