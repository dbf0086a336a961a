-- What each turn of the loops of `follow_hints` keeps.
use Rattle.std.proofs.Common.{◌≡◌, []}
use Rattle.steal_pool.specs.Passes.{GoesOn, IsIdle}
use Rattle.steal_pool.proofs.worker.follow_hints.Given as goal

abbrev pub invariant-loop : goal.invariant-loop
invariant-loop g l = IsIdle (g.W.Work.home l.work) (g.W.Work.state l.pass) × GoesOn (g.W.Work.state l.fn.pass) (g.W.Work.state l.pass) × (l.made ≡ [])
