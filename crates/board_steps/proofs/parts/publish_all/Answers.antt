-- What the check of `publish_all` leaves to show.
use Rattle.std.proofs.Common.{◌≡◌, arith}
use Rattle.board_core.proofs.Totals.{pair_le_first}
use Rattle.board_steps.proofs.parts.publish_all.Goals as goal

pub publish-requires-clause-unset : goal.publish-requires-clause-unset
publish-requires-clause-unset c =
    let kept = c.loop-k.invariant.3.rest c.loop-k.k (omega arith) in
    let most = pair_le_first c.args.t c.loop-k.k c.args.seat.now.me.0.published in
    let none = c.requires.unset in omega arith
