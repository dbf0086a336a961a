-- What the check of `try_duties` leaves to show.
use Rattle.std.proofs.Common.{◌≡◌, subst, ap, true, length}
use Rattle.board_defs.specs.Closure.{is_own}
use Rattle.board_work.specs.PassStates.{Home}
use Rattle.steal_pool.proofs.DutyLemmas.{left_falls, own_below}
use Rattle.steal_pool.proofs.worker.try_duties.Goals as goal

pub duties-smaller : goal.duties-smaller
duties-smaller g c =
    let duty = c.in-Some.ensures in
    let one = c.try_and_hint.ensures in
    let t = c.in-Some.t in
    let own = (g.W.Work.home c.args.work.now).plan.own in
    let mine = subst (λ p. is_own p t ≡ true) (ap (λ (h : Home). h.plan) c.duties.invariant.0.0) duty.own in
    left_falls (length own) (g.W.Work.state c.duties.pass).tried (g.W.Work.state c.try_and_hint.new.pass).tried t (own_below own t mine) duty.untried (one.duty duty.duty) one.goes_on.tried
