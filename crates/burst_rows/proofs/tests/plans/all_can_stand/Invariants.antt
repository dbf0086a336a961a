-- What each turn of the loops of `all_can_stand` keeps.
use Rattle.std.proofs.Common.{ℕ, ◌<◌}
use Rattle.burst_rows.specs.Standing.{CanStand}
use Rattle.burst_rows.proofs.tests.plans.all_can_stand.Given as goal

abbrev pub invariant-loop-t : goal.invariant-loop-t
invariant-loop-t l = (t : ℕ) → t < l.t → CanStand l.plan t
