-- The chain: blocks numbered from 1 on, each with the hash of the one before.
use Rattle.std.specs.Prelude.{ℕ, suc, List, [], ◌∷◌, replicate}
use Rattle.txn_types.specs.declared.block.Block.{Block}
use Rattle.txn_types.specs.declared.block.Body.{Body}
use Rattle.oxii_defs.specs.Table.{Table}
use Rattle.oxii_defs.specs.BlockBytes.{block_hash}

-- the hash that is before block 1
abbrev pub no_hash : List ℕ
no_hash = replicate 32 0

-- the blocks of these bodies from number n on, after this hash
abbrev pub chain_from : Table → ℕ → List ℕ → List Body → List Block
chain_from table n prev [] = []
chain_from table n prev (body ∷ rest) =
    let block : Block = record { number = n; prev = prev; txns = body.txns; config = body.config } in
    block ∷ chain_from table (suc n) (block_hash table block) rest

abbrev pub chain : Table → List Body → List Block
chain table bodies = chain_from table 1 no_hash bodies
