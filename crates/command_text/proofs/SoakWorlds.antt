-- The world of a made input.
use Rattle.std.proofs.Common.{◌≡◌, ◌∙◌, ℕ, List, Option, ap, subst}
use Rattle.txn_types.specs.declared.block.Block.{Block}
use Rattle.txn_types.specs.declared.stream.Item.{Item}
use Rattle.txn_types.specs.declared.stream.Piece.{Piece}
use Rattle.node_defs.specs.Admission.{pieces_of}
use Rattle.txn_core.specs.States.{state_of}
use Rattle.world_laws.specs.Worlds.{KeptWorld, IsWorldOf, setting_with}
use Rattle.input_doc.specs.Inputs.{Input}
use Rattle.soak_input.specs.Generator.{IsSoakInput}
use Rattle.soak_text.specs.Played.{IsSoakWorld}
use Rattle.command_text.specs.AgreedBlocks.{AreAgreedBlocks}
use Rattle.command_text.proofs.WorldLemmas.{setting_is}

-- a world of the events of a made input, over its agreed blocks
pub soak_world : (seed txns : ℕ) (input : Input) (items : List Item) (k : KeptWorld) (blocks : List Block) (pieces : List (Option Piece)) → IsSoakInput seed txns input →
    items ≡ input.items → AreAgreedBlocks input.table input.limits items blocks → pieces ≡ pieces_of input.table items →
    IsWorldOf k (state_of input.genesis) (setting_with input.table (state_of input.genesis) blocks pieces input.faulty) input.schedule → IsSoakWorld seed txns k blocks
soak_world seed txns input items k blocks pieces made same agreed admitted stands =
    let ours = subst (λ (xs : List Item). AreAgreedBlocks input.table input.limits xs blocks) same agreed in record {
      input = input;
      made = made;
      bodies = ours.bodies;
      agreed = ours.agreed;
      blocks_are = ours.linked;
      stands = subst (λ s. IsWorldOf k (state_of input.genesis) s input.schedule) (setting_is input blocks pieces ours (admitted ∙ ap (pieces_of input.table) same)) stands;
    }
