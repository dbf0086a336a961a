-- What the check of `run` leaves to show.
use Rattle.std.proofs.Common.{refl, arith}
use Rattle.burst_rows.proofs.Runnable.{runnable}
use Rattle.burst_rows.proofs.tests.plans.run.Goals as goal

pub burst-requires-clause-runnable : goal.burst-requires-clause-runnable
burst-requires-clause-runnable g c κs lives =
    runnable _ c.requires.table c.requires.block (omega arith) c.in_ok-graph.ensures.lists c.in_ok-graph.ensures.kind c.as_slice.ensures.values c.requires.base (omega arith) (omega arith) (c.if-not-all_can_stand.ensures refl)
