-- What the check of `push_values` leaves to show.
use Rattle.std.proofs.Common.{arith}
use Rattle.report_text.proofs.LineSteps.{goes_on, lines_next}
use Rattle.report_text.proofs.state.push_values.Goals as goal

pub loop-i-preserved : goal.loop-i-preserved
loop-i-preserved c =
    goes_on _ _ _ _ _ _ c.loop-i.invariant
    (lines_next c.args.values.now c.args.names.now c.loop-i.i c.index-names-i.result c.index-names-i.is (omega arith))
    c.in_ok-push_value.ensures
