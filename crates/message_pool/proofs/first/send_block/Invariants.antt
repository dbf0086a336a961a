-- What each turn of the loops of `send_block` keeps.
use Rattle.std.proofs.Common.{length}
use Rattle.world_laws.specs.Starts.{nodes_of}
use Rattle.world_laws.proofs.Starting.{Sending}
use Rattle.message_pool.proofs.first.send_block.Given as goal

abbrev pub invariant-loop-o : goal.invariant-loop-o
invariant-loop-o l = Sending (nodes_of l.table l.faulty) l.block (length l.table.orderers) l.fn.pool l.o l.pool
