-- What each turn of the loops of `give_all` keeps.
use Rattle.std.specs.Prelude.{◌-◌}
use Rattle.world_laws.proofs.Turns.{AllUpTo, most_turns}
use Rattle.schedule_run.proofs.each.give_all.Given as goal

abbrev pub invariant-loop-m : goal.invariant-loop-m
invariant-loop-m g l = AllUpTo l.table l.workers l.fn.pool l.fn.peers l.fn.bursts l.m l.pool l.peers l.bursts

abbrev pub decreases-loop-m : goal.decreases-loop-m
decreases-loop-m g l = most_turns l.fn.pool l.fn.peers - l.m
