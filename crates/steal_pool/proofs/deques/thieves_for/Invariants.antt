-- What each turn of the loops of `thieves_for` keeps.
use Rattle.std.proofs.Common.{◌≡◌, map, take}
use Rattle.crossbeam_deque.specs.Handles.{worker_deque, stealer_deque}
use Rattle.steal_pool.specs.Others.{without_place}
use Rattle.steal_pool.proofs.deques.thieves_for.Given as goal

abbrev pub invariant-loop-other : goal.invariant-loop-other
invariant-loop-other g l = map stealer_deque l.thieves.items ≡ without_place l.worker (take l.other (map (λ d. worker_deque d.own) l.fn.deques))
