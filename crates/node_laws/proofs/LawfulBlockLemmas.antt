-- A lawful block has at most 256 transactions, and each of them is lawful.
use Rattle.std.specs.Prelude.{◌≤◌, List, length, Option, Some, None}
use Rattle.std.specs.List.{All}
use Rattle.std.proofs.Common.{sym, ap, subst, arith}
use Rattle.std.proofs.lemmas.List.Elements.{All-nil}
use Rattle.txn_types.specs.declared.txn.Txn.{Txn}
use Rattle.txn_types.specs.declared.block.Block.{Block}
use Rattle.txn_types.specs.declared.block.Config.{Config}
use Rattle.oxii_defs.specs.Table.{Table}
use Rattle.oxii_defs.specs.Lawful.{IsLawfulTxn, IsLawfulBody, IsLawfulBlock}

pub body_txns : (table : Table) (txns : List Txn) (config : Option Config) → IsLawfulBody table txns config → All (IsLawfulTxn table) txns
body_txns table txns None lawful = lawful.1
body_txns table txns (Some config) lawful = subst (All (IsLawfulTxn table)) (sym lawful.0) (All-nil (IsLawfulTxn table))

body_few : (table : Table) (txns : List Txn) (config : Option Config) → IsLawfulBody table txns config → length txns ≤ 256
body_few table txns None lawful = omega (arith, lawful.0.1)
body_few table txns (Some config) lawful = omega (arith, ap length lawful.0)

pub block_txns : (table : Table) (block : Block) → IsLawfulBlock table block → All (IsLawfulTxn table) block.txns
block_txns table block lawful = body_txns table block.txns block.config lawful

pub block_few : (table : Table) (block : Block) → IsLawfulBlock table block → length block.txns ≤ 256
block_few table block lawful = body_few table block.txns block.config lawful
