-- What each turn of the loops of `hashes_of` keeps.
use Rattle.std.proofs.Common.{◌≡◌, ◌++◌, drop, map}
use Rattle.oxii_defs.specs.BlockBytes.{block_hash}
use Rattle.txn_core.specs.MeantTable.{table_of}
use Rattle.message_pool.proofs.hashes.hashes_of.Given as goal

abbrev pub invariant-loop-block : goal.invariant-loop-block
invariant-loop-block l = record {
  left : l.hashes ++ map (block_hash (table_of l.table)) (drop l.block-index l.block-items) ≡ map (block_hash (table_of l.table)) l.blocks;
  same : l.block-items ≡ l.blocks;
}
