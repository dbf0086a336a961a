-- What the check of `push_afters` leaves to show.
use Rattle.std.proofs.Common.{arith}
use Rattle.report_text.proofs.LineSteps.{goes_on, afters_next}
use Rattle.report_text.proofs.graph.push_afters.Goals as goal

pub loop-i-preserved : goal.loop-i-preserved
loop-i-preserved c =
    goes_on _ _ _ _ _ _ c.loop-i.invariant
    (afters_next _ _ c.args.txns.now c.args.graph.now.preds c.loop-i.i c.index-txns-i.result c.preds.result.now c.index-txns-i.is c.preds.ensures.list (omega arith) (omega (arith, c.requires.whole)))
    c.in_ok-push_after.ensures
