-- What holds of all kept blocks.
use Rattle.std.specs.Prelude.{◌≡◌, ◌⊎◌}
use Rattle.std.specs.List.{All}
use Rattle.std.proofs.Common.{inl, inr, subst, sym}
use Rattle.keyed_lists.specs.Keyed.{IsPutAmong}
use Rattle.keyed_lists.proofs.Among.{All-among}
use Rattle.txn_types.specs.declared.block.Block.{Block}
use Rattle.newblock_quorum.specs.Entries.{KeepsWith, KeptNewBlocks, blocks_of}

-- it holds of all behind a NEWBLOCK of whose block it holds
pub blocks_keep : (P : Block → Type 0) (old : KeptNewBlocks) (block : Block) (new : KeptNewBlocks) → KeepsWith old block new → All P (blocks_of old.entries) → P block → All P (blocks_of new.entries)
blocks_keep P old block new kept all one = by kept.blocks
  where
    by : (blocks_of new.entries ≡ blocks_of old.entries) ⊎ IsPutAmong (blocks_of old.entries) block (blocks_of new.entries) → All P (blocks_of new.entries)
    by (inl same) = subst (All P) (sym same) all
    by (inr put) = All-among P (blocks_of old.entries) block (blocks_of new.entries) put all one
