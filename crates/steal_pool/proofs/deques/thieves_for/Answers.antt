-- What the check of `thieves_for` leaves to show.
use Rattle.std.proofs.Common.{◌∙◌, ap, arith}
use Rattle.crossbeam_deque.specs.Handles.{worker_deque, stealer_deque}
use Rattle.steal_pool.proofs.OtherDeques.{push_other, skip_other}
use Rattle.steal_pool.proofs.deques.thieves_for.Goals as goal
use Rattle.steal_pool.proofs.deques.thieves_for.Goals.{then-other-worker+in_ok-stealer+in_ok-push, else-other-worker}

pub loop-other-preserved : goal.loop-other-preserved
loop-other-preserved g c = elim c.if-other-worker.branch [
  | then-other-worker+in_ok-stealer+in_ok-push w ↦ push_other (λ d. worker_deque d.own) stealer_deque c.args.worker c.loop-other.other c.args.deques.now c.loop-other.thieves.items _ c.loop-other.invariant
      w.index-deques-other.result w.in_ok-stealer.field-0 (omega arith) w.index-deques-other.is w.if-other-worker.true (ap (λ t. t.items) w.thieves-is ∙ w.in_ok-push.ensures.items) w.in_ok-stealer.ensures.0
  | else-other-worker w ↦ skip_other (λ d. worker_deque d.own) stealer_deque c.args.worker c.loop-other.other c.args.deques.now c.loop-other.thieves.items _ c.loop-other.invariant
      w.if-other-worker.false (ap (λ t. t.items) w.thieves-is)
]
