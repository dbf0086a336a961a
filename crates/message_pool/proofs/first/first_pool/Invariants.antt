-- What each turn of the loops of `first_pool` keeps.
use Rattle.std.proofs.Common.{◌≡◌, ◌++◌, drop}
use Rattle.node_defs.specs.World.{first_pool}
use Rattle.world_laws.specs.Starts.{nodes_of}
use Rattle.message_pool.proofs.first.first_pool.Given as goal

abbrev pub invariant-loop-block : goal.invariant-loop-block
invariant-loop-block l = record {
  left : l.pool ++ first_pool (nodes_of l.table l.faulty) (drop l.block-index l.block-items) ≡ first_pool (nodes_of l.table l.faulty) l.blocks;
  same : l.block-items ≡ l.blocks;
}
