-- The accepted block.
use Rattle.std.specs.Prelude.{ℕ, suc, ◌==◌, if◌then◌else◌, List, [], ◌∷◌, map, length, filter, Option, None}
use Rattle.txn_types.specs.declared.block.Block.{Block}
use Rattle.oxii_defs.specs.Chain.{no_hash}
use Rattle.oxii_defs.specs.Lines.{Entry}
use Rattle.node_defs.specs.Same.{same_list, same_number, same_block}
use Rattle.node_defs.specs.Counting.{first_to_reach}
use Rattle.node_defs.specs.Rules.{Rules}
use Rattle.node_defs.specs.Log.{Log, first_newblocks}

-- the first content with this previous hash that the first NEWBLOCKs for n of a quorum of orderers carried
abbrev pub accepted : Rules → ℕ → List ℕ → Log → Option Block
accepted rules n tip L =
    first_to_reach same_block rules.table.quorum (filter (λ b. same_list same_number b.prev tip) (map (λ x. x.1) (first_newblocks rules n L)))

-- the hash of the last block of a ledger
abbrev pub tip : Rules → List Entry → List ℕ
tip rules [] = no_hash
tip rules (e ∷ before) = rules.hash e.block

-- block m + 1 where it is accepted, once m blocks are completed
abbrev pub accepted_after : Rules → ℕ → List Entry → Log → Option Block
accepted_after rules m done L = if length done == m then accepted rules (suc m) (tip rules done) L else None
