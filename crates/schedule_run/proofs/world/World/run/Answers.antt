-- What the check of `World::run` leaves to show.
use Rattle.std.proofs.Common.{sym, subst}
use Rattle.world_laws.specs.Worlds.{CanTake, Follows}
use Rattle.schedule_run.specs.Scenes.{world_of}
use Rattle.schedule_run.proofs.world.World.run.Goals as goal

pub play-requires-clause-events : goal.play-requires-clause-events
play-requires-clause-events g c κs within = subst (λ k. CanTake k c.args.events.now) (sym c.self.view_is) c.requires.events

pub returns : goal.returns
returns g c = record {
  follows = subst (λ k. Follows c.args.workers k c.args.events.now (world_of c.self.inside.basis c.play.new.scene)) c.self.view_is c.in_ok-play.ensures.follows;
}
