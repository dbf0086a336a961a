-- What contracts see of a counted NEWBLOCK.
use Rattle.std.specs.Prelude.{ℕ}
use Rattle.txn_types.specs.declared.block.Block.{Block}
use Rattle.txn_core.specs.Graphs.{Shape}

-- its orderer, its block and the graph that came with it
pub record CountedNewBlock : Type 0 where
  pub orderer : ℕ
  pub block : Block
  pub graph : Shape
