-- What the check of `World::messages` leaves to show.
use Rattle.std.proofs.Common.{arith}
use Rattle.world_laws.proofs.Reaching.{few_messages}
use Rattle.schedule_run.proofs.world.World.messages.Goals as goal

pub overflow_cast-result : goal.overflow_cast-result
overflow_cast-result c =
    let i = c.self.inside in
    let v = c.self.invariant in
    omega (arith, c.len.ensures, few_messages i.basis.table.now i.basis.faulty i.scene.pool i.scene.peers.items i.scene.falses i.scene.items v.table_lawful.peers.1 v.few_falses v.few_items v.reached)
