-- What each turn of the loops of `burst` keeps.
use Rattle.steal_pool.proofs.pool.burst.Given as goal

abbrev pub ghosts-run_hired : goal.ghosts-run_hired
ghosts-run_hired g a = record { own = a.plan.now.own.now }
