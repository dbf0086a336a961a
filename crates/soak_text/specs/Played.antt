-- The world of a made input, as the program holds it.
use Rattle.std.specs.Prelude.{◌≡◌, ℕ, List}
use Rattle.txn_types.specs.declared.block.Block.{Block}
use Rattle.txn_types.specs.declared.block.Body.{Body}
use Rattle.oxii_defs.specs.Chain.{chain}
use Rattle.node_defs.specs.Cutting.{AreAgreed}
use Rattle.node_defs.specs.Programs.{setting_of}
use Rattle.txn_core.specs.States.{state_of}
use Rattle.world_laws.specs.Worlds.{KeptWorld, IsWorldOf}
use Rattle.input_doc.specs.Inputs.{Input}
use Rattle.soak_input.specs.Generator.{IsSoakInput}

-- the world of the events of the input that a seed and a count of transactions make, and its agreed blocks
pub record IsSoakWorld (seed txns : ℕ) (k : KeptWorld) (blocks : List Block) : Type 0 where
  pub input : Input
  pub made : IsSoakInput seed txns input
  pub bodies : List Body
  pub agreed : AreAgreed input.table input.limits input.items bodies
  pub blocks_are : blocks ≡ chain input.table bodies
  pub stands : IsWorldOf k (state_of input.genesis) (setting_of input.table (state_of input.genesis) input.items bodies input.faulty) input.schedule
