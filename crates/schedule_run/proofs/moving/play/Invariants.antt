-- What each turn of the loops of `play` keeps.
use Rattle.std.proofs.Common.{take}
use Rattle.world_laws.specs.Worlds.{Follows, IsWellKept}
use Rattle.schedule_run.specs.Scenes.{world_of}
use Rattle.schedule_run.proofs.moving.play.Given as goal

abbrev pub invariant-loop-event : goal.invariant-loop-event
invariant-loop-event g l = record {
  kept : IsWellKept (world_of l.basis l.scene);
  follows : Follows l.workers (world_of l.basis l.fn.scene) (take l.event-index l.events) (world_of l.basis l.scene);
}
