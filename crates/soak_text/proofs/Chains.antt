-- The blocks of a cutting have no more transactions than its limits say.
use Rattle.std.proofs.Common.{◌≤◌, ℕ, suc, List, [], ◌∷◌, length, map, sym, subst}
use Rattle.std.specs.List.{All, AllByRecursion}
use Rattle.std.proofs.lemmas.List.Elements.{All-cons, All-nil}
use Rattle.txn_types.specs.declared.block.Block.{Block}
use Rattle.txn_types.specs.declared.block.Body.{Body}
use Rattle.txn_types.specs.declared.stream.CutLimits.{CutLimits}
use Rattle.txn_types.specs.declared.stream.Item.{Item}
use Rattle.oxii_defs.specs.Table.{Table}
use Rattle.oxii_defs.specs.BlockBytes.{block_hash}
use Rattle.oxii_defs.specs.Chain.{chain, chain_from}
use Rattle.node_defs.specs.Cutting.{AdmittedItem, AreAgreed, IsPart, carried_body, config_in, txns_in}

abbrev Few : CutLimits → Block → Type 0
Few limits b = length b.txns ≤ limits.txns

parts_few : (table : Table) (limits : CutLimits) (n : ℕ) (prev : List ℕ) (lists : List (List AdmittedItem)) → AllByRecursion (IsPart table limits) lists → All (Few limits) (chain_from table n prev (map carried_body lists))
parts_few table limits n prev [] parts = All-nil (Few limits)
parts_few table limits n prev (list ∷ rest) parts =
    let block : Block = record { number = n; prev = prev; txns = txns_in list; config = config_in list } in
    All-cons (Few limits) block (chain_from table (suc n) (block_hash table block) (map carried_body rest)) parts.0.few (parts_few table limits (suc n) (block_hash table block) rest parts.1)

pub chain_few : (table : Table) (limits : CutLimits) (items : List Item) (bodies : List Body) → AreAgreed table limits items bodies → All (Few limits) (chain table bodies)
chain_few table limits items bodies agreed = subst (λ bs. All (Few limits) (chain table bs)) (sym agreed.2) (parts_few table limits 1 _ agreed.0 agreed.1.parts)
