-- What the check of `stream` leaves to show.
use Rattle.std.proofs.Common.{◌∙◌, ◌+◌, ◌-◌, arith}
use Rattle.soak_input.proofs.StreamSteps.{stream_more}
use Rattle.soak_input.proofs.payments.stream.Goals as goal

pub loop-preserved : goal.loop-preserved
loop-preserved c =
    c.loop.invariant
    ∙ stream_more c.loop.draws c.drawn.new.draws (c.args.txns - c.loop.counter) (c.args.txns - (c.loop.counter + 1)) c.loop.items c.push.new.self c.in_ok-request.request
    (omega (arith, c.loop-test.true)) c.in_ok-request.ensures.request c.in_ok-request.ensures.draws c.in_ok-push.ensures.ok
