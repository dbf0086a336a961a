-- The chain of a cutting.
use Rattle.std.proofs.Common.{◌≡◌, List}
use Rattle.txn_types.specs.declared.block.Body.{Body}
use Rattle.txn_types.specs.declared.block.Block.{Block}
use Rattle.txn_types.specs.declared.stream.CutLimits.{CutLimits}
use Rattle.txn_types.specs.declared.stream.Item.{Item}
use Rattle.oxii_defs.specs.Table.{Table}
use Rattle.oxii_defs.specs.Chain.{chain}
use Rattle.node_defs.specs.Cutting.{AreAgreed}
use Rattle.command_text.specs.AgreedBlocks.{AreAgreedBlocks}

pub agreed_blocks : (table : Table) (limits : CutLimits) (items : List Item) (bodies : List Body) (blocks : List Block) → AreAgreed table limits items bodies → blocks ≡ chain table bodies → AreAgreedBlocks table limits items blocks
agreed_blocks table limits items bodies blocks agreed linked = record { bodies = bodies; agreed = agreed; linked = linked }
