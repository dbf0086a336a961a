-- What the check of `push_first` leaves to show.
use Rattle.std.proofs.Common.{subst}
use Rattle.board_work.specs.Plans.{plan_of}
use Rattle.steal_pool.specs.Hints.{IsOwn}
use Rattle.steal_pool.proofs.DutyLemmas.{ready_own}
use Rattle.steal_pool.proofs.HintMoves.{pushes, all_one}
use Rattle.steal_pool.proofs.pool.push_first.Goals as goal

pub push_as-requires-clause-pushes : goal.push_as-requires-clause-pushes
push_as-requires-clause-pushes g c =
    let t = c.loop-t.t in
    pushes g.F.OwnFlags.own _ _ _ (all_one g.F.OwnFlags.own t (subst (λ own. IsOwn own t) c.requires.flags (ready_own (plan_of c.args.plan.now) t c.is_ready.result c.is_ready.ensures c.if-is_ready.true)))
