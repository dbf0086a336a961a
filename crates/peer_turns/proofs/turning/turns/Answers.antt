-- What the check of `turns` leaves to show.
use Rattle.std.specs.Prelude.{suc}
use Rattle.std.proofs.Common.{◌∙◌}
use Rattle.peer_turns.proofs.TurnLemmas.{was_last, was_more}
use Rattle.peer_turns.proofs.turning.turns.Goals as goal

pub returns-then-not-more-clause-ended : goal.returns-then-not-more-clause-ended
returns-then-not-more-clause-ended g c = λ genesis me m e K at.
    let r = c.loop-more.invariant.midway genesis me m e K at in
    was_last c.args.workers genesis me r.0 e K _ _ _ _ c.if-not-more.true (c.in_ok-more.ensures.turned genesis me r.0 e K r.1)

pub loop-more-preserved : goal.loop-more-preserved
loop-more-preserved g c = record {
  kept = c.in_ok-more.ensures.kept;
  me = c.in_ok-more.ensures.me ∙ c.loop-more.invariant.me;
  midway = λ genesis me m e K at.
      let r = c.loop-more.invariant.midway genesis me m e K at in
      (suc r.0, was_more c.args.workers genesis me r.0 e K _ _ _ _ c.if-not-more.false (c.in_ok-more.ensures.turned genesis me r.0 e K r.1));
}
