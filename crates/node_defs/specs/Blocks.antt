-- The block of a chain at a number.
use Rattle.std.specs.Prelude.{ℕ, List, [], get_or, None}
use Rattle.txn_types.specs.declared.block.Block.{Block}

-- what is where there is no block
abbrev pub no_block : Block
no_block = record { number = 0; prev = []; txns = []; config = None }

-- block m + 1 of a chain
abbrev pub block_at : List Block → ℕ → Block
block_at chain m = get_or chain m no_block
