-- What the check of `another_follows` leaves to show.
use Rattle.std.proofs.Common.{◌&&◌, ◌==◌, not, [], get_or, sym, subst, ◌∙◌, ap, arith}
use Rattle.txn_core.specs.Graphs.{ArePreds}
use Rattle.txn_core.proofs.GraphLemmas.{graph_preds}
use Rattle.oxii_defs.specs.State.{contains}
use Rattle.known_defs.specs.Known.{no_txn}
use Rattle.dep_graph.proofs.FollowLemmas.{another_none, same_app, after_it}
use Rattle.dep_graph.proofs.follow.another_follows.Goals as goal
use Rattle.dep_graph.proofs.follow.another_follows.Goals.{else-is_after-via-then-is_after+else-txns-j, else-is_after-via-else-is_after}

pub loop-j-init : goal.loop-j-init
loop-j-init c = after_it c.args.t c.args.app c.args.graph.now.preds c.args.txns.now (subst ArePreds (sym c.requires.graph) (graph_preds c.args.graph.now.kind c.args.txns.now (omega (arith, c.requires.places, c.len-count.ensures.room)))) c.requires.places c.requires.position

pub loop-j-preserved : goal.loop-j-preserved
loop-j-preserved c = elim c.else-is_after.branch [
  | else-is_after-via-then-is_after+else-txns-j w ↦
      another_none c.args.t c.args.app c.args.graph.now.preds c.args.txns.now c.loop-j.j [] w.index-txns-j.result (omega arith) (omega arith)
      (same_app (contains (get_or c.args.graph.now.preds c.loop-j.j []) c.args.t) _ _ w.if-txns-j.false) ∙ c.loop-j.invariant
  | else-is_after-via-else-is_after w ↦
      another_none c.args.t c.args.app c.args.graph.now.preds c.args.txns.now c.loop-j.j [] no_txn (omega arith) (omega arith)
      (ap (λ b. b && not ((get_or c.args.txns.now c.loop-j.j no_txn).app == c.args.app)) (sym c.is_after.ensures ∙ w.if-is_after.false)) ∙ c.loop-j.invariant
]
