-- What each turn of the loops of `give_each` keeps.
use Rattle.world_laws.proofs.Giving.{Giving}
use Rattle.schedule_run.proofs.each.give_each.Given as goal

abbrev pub invariant-loop-i : goal.invariant-loop-i
invariant-loop-i g l = Giving l.table l.workers l.fn.pool l.fn.peers l.fn.bursts l.m l.i l.pool l.peers l.bursts
