-- What the check of `all_can_stand` leaves to show.
use Rattle.std.proofs.Common.{◌≡◌, refl, subst, arith, ⊎_elim}
use Rattle.std.proofs.lemmas.Bool.{cases_lt}
use Rattle.burst_rows.specs.Standing.{CanStand}
use Rattle.burst_rows.proofs.tests.plans.all_can_stand.Goals as goal

pub loop-t-preserved : goal.loop-t-preserved
loop-t-preserved c = λ t lt. ⊎_elim (λ l. c.loop-t.invariant t l) (λ ge. let e : c.loop-t.t ≡ t = omega arith in subst (CanStand c.args.plan.now) e (c.if-not-can_stand.ensures refl)) (cases_lt t c.loop-t.t)

pub returns : goal.returns
returns c = λ _ t lt. c.loop-t.invariant t (omega arith)
