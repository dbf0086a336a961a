-- What each turn of the loops of `list` keeps.
use Rattle.std.proofs.Common.{◌≡◌, ◌++◌, length, map, reverse}
use Rattle.world_laws.specs.Deliveries.{burst_at}
use Rattle.schedule_run.proofs.giving.list.Given as goal

abbrev pub invariant-loop-spans : goal.invariant-loop-spans
invariant-loop-spans l = l.bursts ++ map (burst_at l.peer) (reverse l.rest) ≡ l.fn.bursts ++ map (burst_at l.peer) l.fn.spans

abbrev pub decreases-loop-spans : goal.decreases-loop-spans
decreases-loop-spans l = length l.rest
