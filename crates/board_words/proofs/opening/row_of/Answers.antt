-- What the check of `row_of` leaves to show.
use Rattle.std.proofs.Common.{◌∙◌, ap, sym, arith, length}
use Rattle.board_core.specs.Counts.{times}
use Rattle.board_work.specs.Plans.{plan_of}
use Rattle.board_words.proofs.Opens.{row_next, waits_behind}
use Rattle.board_words.proofs.opening.row_of.Goals as goal

pub loop-t-init : goal.loop-t-init
loop-t-init c =
    let e = ap length c.new-row.ensures in (
      omega arith,
      (λ y below. ap (times y) c.new-row.ensures ∙ sym (waits_behind (plan_of c.args.plan.now) c.args.s y (omega (arith, below)))),
      λ y le. ap (times y) c.new-row.ensures,
    )

pub loop-t-preserved : goal.loop-t-preserved
loop-t-preserved c = row_next (plan_of c.args.plan.now) c.args.s c.loop-t.t c.loop-t.row c.add_where.new.row c.waits_for-waits.result c.waits_for-waits.ensures c.in_ok-add_where.ensures c.loop-t.invariant
