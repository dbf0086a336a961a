-- What the check of `put_all` leaves to show.
use Rattle.std.proofs.Common.{◌<◌, ◌∙◌, arith, length}
use Rattle.txn_core.proofs.StateLemmas.{put_next, fit_length}
use Rattle.txn_core.proofs.serial.put_all.Goals as goal

pub loop-i-preserved : goal.loop-i-preserved
loop-i-preserved c =
    let within : c.loop-i.i < length c.args.entries.now = omega (arith, c.loop-i-test.true, fit_length c.args.writes.now c.args.entries.now c.requires.entries) in (
      put_next _ _ _ _ _ _ c.loop-i-test.true within c.put.ensures.state ∙ c.loop-i.invariant.0,
      c.put.ensures.length ∙ c.loop-i.invariant.1,
    )
