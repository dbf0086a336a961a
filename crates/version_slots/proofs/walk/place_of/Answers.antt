-- What the check of `place_of` leaves to show.
use Rattle.std.proofs.Common.{arith}
use Rattle.version_slots.proofs.PlaceLemmas.{place_found, place_missing}
use Rattle.version_slots.proofs.walk.place_of.Goals as goal

pub returns-then-writes-j : goal.returns-then-writes-j
returns-then-writes-j c = place_found c.args.writes.now c.args.r c.loop-j.j c.loop-j-test.true c.loop-j.invariant c.if-writes-j.true

pub returns : goal.returns
returns c = place_missing c.args.writes.now c.args.r (λ k l. c.loop-j.invariant k (omega (arith, l, c.loop-j-test.false)))
