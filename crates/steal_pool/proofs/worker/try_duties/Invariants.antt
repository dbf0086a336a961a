-- What each turn of the loops of `try_duties` keeps.
use Rattle.std.proofs.Common.{◌≡◌, [], length}
use Rattle.steal_pool.specs.Passes.{GoesOn, IsIdle}
use Rattle.steal_pool.proofs.DutyLemmas.{left}
use Rattle.steal_pool.proofs.worker.try_duties.Given as goal

abbrev pub invariant-duties : goal.invariant-duties
invariant-duties g l = IsIdle (g.W.Work.home l.work) (g.W.Work.state l.pass) × GoesOn (g.W.Work.state l.fn.pass) (g.W.Work.state l.pass) × (l.made ≡ [])

abbrev pub decreases-duties : goal.decreases-duties
decreases-duties g l = left (length (g.W.Work.home l.work).plan.own) (g.W.Work.state l.pass).tried
