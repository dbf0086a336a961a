-- What the check of `count_one` leaves to show.
use Rattle.std.proofs.Common.{ap, arith}
use Rattle.board_core.proofs.PassFits.{counts_duty}
use Rattle.board_steps.proofs.parts.count_one.Goals as goal

pub returns-clause-counts : goal.returns-clause-counts
returns-clause-counts c =
    rw (ap (λ m. m.0) c.count_down-need.ensures.view, c.push.ensures)
    (counts_duty c.args.s c.args.t c.count_down-need.result c.args.seat.now.me.0 c.args.made.now (omega arith))
