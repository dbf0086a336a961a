-- What the check of `play` leaves to show.
use Rattle.std.proofs.Common.{subst, arith}
use Rattle.std.proofs.lemmas.List.{take_all}
use Rattle.world_laws.specs.Worlds.{Follows}
use Rattle.world_laws.proofs.Moving.{can_take_next, follows_next}
use Rattle.schedule_run.specs.Scenes.{world_of}
use Rattle.schedule_run.proofs.moving.play.Goals as goal

pub happen-requires-clause-event : goal.happen-requires-clause-event
happen-requires-clause-event g c κs within =
    let b = c.args.basis.now in
    can_take_next c.args.workers (world_of b c.args.scene.now) (world_of b c.loop-event.scene) c.args.events.now c.loop-event.event-index c.event-item.result (omega arith) c.event-item.is c.requires.events c.loop-event.invariant.follows

pub loop-event-preserved : goal.loop-event-preserved
loop-event-preserved g c =
    let b = c.args.basis.now in
    record {
      kept = c.in_ok-happen.ensures.kept;
      follows = follows_next c.args.workers (world_of b c.args.scene.now) (world_of b c.loop-event.scene) (world_of b c.happen.new.scene) c.args.events.now c.loop-event.event-index c.event-item.result (omega arith) c.event-item.is
          c.loop-event.invariant.follows c.in_ok-happen.ensures.follows;
    }

pub returns-clause-follows : goal.returns-clause-follows
returns-clause-follows g c =
    let b = c.args.basis.now in
    subst (λ es. Follows c.args.workers (world_of b c.args.scene.now) es (world_of b c.loop-event.scene)) (take_all c.loop-event.event-index c.args.events.now (omega arith)) c.loop-event.invariant.follows
