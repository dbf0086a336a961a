-- What the check of `World::step` leaves to show.
use Rattle.std.specs.Prelude.{◌∷◌, []}
use Rattle.std.proofs.Common.{sym, subst}
use Rattle.world_laws.specs.Worlds.{CanTake, Follows}
use Rattle.schedule_run.specs.Scenes.{world_of}
use Rattle.schedule_run.proofs.world.World.step.Goals as goal

pub happen-requires-clause-event : goal.happen-requires-clause-event
happen-requires-clause-event g c κs within = subst (λ k. CanTake k (c.args.event.now ∷ [])) (sym c.self.view_is) c.requires.event

pub returns : goal.returns
returns g c = record {
  follows = subst (λ k. Follows c.args.workers k (c.args.event.now ∷ []) (world_of c.self.inside.basis c.happen.new.scene)) c.self.view_is c.in_ok-happen.ensures.follows;
}
