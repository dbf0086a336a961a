-- What the check of `open_deques` leaves to show.
use Rattle.std.proofs.Common.{◌≡◌, ◌∙◌, ap, map, length-set, refl, arith}
use Rattle.crossbeam_deque.specs.Handles.{worker_deque, stealer_deque}
use Rattle.steal_pool.specs.Others.{without_place}
use Rattle.steal_pool.proofs.OtherDeques.{others_more}
use Rattle.steal_pool.proofs.deques.open_deques.Goals as goal

pub loop-worker-preserved : goal.loop-worker-preserved
loop-worker-preserved g c =
    let items = c.loop-worker.deques.items in
    let old = c.index_mut.result.now in (
      length-set items c.loop-worker.worker (record { own = old.own; others = c.in_ok-deques-2.field-0 }) ∙ c.loop-worker.invariant.0,
      others_more (λ d. worker_deque d.own) (λ d. map stealer_deque d.others.items) items c.loop-worker.worker old (record { own = old.own; others = c.in_ok-deques-2.field-0 }) (omega arith) c.index_mut.ensures.value refl
          (c.in_ok-deques-2.ensures ∙ ap (λ xs. without_place c.loop-worker.worker (map (λ d. worker_deque d.own) xs)) c.as_slice.ensures.value) c.loop-worker.invariant.1,
    )
