-- What the check of `judge_all` leaves to show.
use Rattle.std.proofs.Common.{◌∙◌, ap, sym, refl, [], ◌∷◌}
use Rattle.xov_mode.specs.Verdicts.{verdict_for}
use Rattle.xov_mode.specs.Writers.{earliest}
use Rattle.xov_mode.proofs.FirstWriters.{cause_before, turned}
use Rattle.xov_mode.proofs.judging.judge_all.Goals as goal

pub loop-t-init : goal.loop-t-init
loop-t-init c = rw (c.new-writers.ensures, c.new-verdicts.ensures) record {
  same = refl;
  size = refl;
  writers = λ r. sym (cause_before 0 c.args.txns.now c.args.outcomes.now (r ∷ []));
}

pub loop-t-preserved : goal.loop-t-preserved
loop-t-preserved c =
    let r = turned c.loop-t.writers c.enter.new.writers c.args.txns.now c.args.outcomes.now c.loop-t.verdicts c.push.new.self c.loop-t.t _ _ _ c.loop-t.invariant.same c.loop-t.invariant.size c.loop-t.invariant.writers c.loop-t-test.true c.requires.whole c.index-txns-t.is c.index-outcomes-t.is (c.verdict_for-verdict.ensures ∙ ap verdict_for (c.earliest.ensures ∙ ap (earliest c.loop-t.writers) c.as_slice.ensures.items)) c.in_ok-enter.ensures c.in_ok-push.ensures.ok in
    record { same = r.0; size = r.1; writers = r.2 }
