-- What each turn of the loops of `open_deques` keeps.
use Rattle.std.proofs.Common.{◌≡◌, map, length}
use Rattle.crossbeam_deque.specs.Handles.{worker_deque, stealer_deque}
use Rattle.steal_pool.specs.Others.{HaveOthers}
use Rattle.steal_pool.proofs.deques.open_deques.Given as goal

abbrev pub invariant-loop-worker : goal.invariant-loop-worker
invariant-loop-worker g l = (length l.deques.items ≡ l.workers) × HaveOthers (λ d. worker_deque d.own) (λ d. map stealer_deque d.others.items) l.deques.items l.worker
