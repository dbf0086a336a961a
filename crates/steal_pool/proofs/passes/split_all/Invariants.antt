-- What each turn of the loops of `split_all` keeps.
use Rattle.steal_pool.specs.Passes.{AreSplit}
use Rattle.steal_pool.proofs.passes.split_all.Given as goal

abbrev pub invariant-loop : goal.invariant-loop
invariant-loop g l = AreSplit g.W.Work.state (g.W.Work.home l.work) (g.W.Work.state l.first) l.passes.items l.counter
