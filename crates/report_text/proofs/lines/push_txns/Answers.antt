-- What the check of `push_txns` leaves to show.
use Rattle.std.proofs.Common.{arith}
use Rattle.report_text.proofs.LineSteps.{goes_on, txns_next}
use Rattle.report_text.proofs.lines.push_txns.Goals as goal

pub loop-i-preserved : goal.loop-i-preserved
loop-i-preserved c =
    goes_on _ _ _ _ _ _ c.loop-i.invariant
    (txns_next _ _ c.args.txns.now c.args.outcomes.now c.loop-i.i c.index-txns-i.result c.index-outcomes-i.result c.index-txns-i.is c.index-outcomes-i.is (omega arith) (omega arith))
    c.in_ok-push_txn.ensures
