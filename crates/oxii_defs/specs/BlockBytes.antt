-- The bytes of a block, and its hash. Numbers have their high byte first.
use Rattle.std.specs.Prelude.{ℕ, List, [], ◌∷◌, ◌++◌, length, map, Option, Some, None}
use Rattle.std.specs.List.{flat_map, slice_index_or}
use Rattle.std.specs.Int.{w32, w64, to_be_bytes}
use Rattle.sha2.specs.Sha256.{sha256}
use Rattle.txn_types.specs.declared.txn.Arg.{Arg}
use Rattle.txn_types.specs.declared.txn.Arg.TheVariants.{Rec, Num}
use Rattle.txn_types.specs.declared.txn.Txn.{Txn}
use Rattle.txn_types.specs.declared.block.Config.{Config}
use Rattle.txn_types.specs.declared.block.Block.{Block}
use Rattle.oxii_defs.specs.Syntax.{Name, Op}
use Rattle.oxii_defs.specs.Table.{Table}

-- NAMES OF WHAT IS NUMBERED

abbrev pub record_name : Table → ℕ → Name
record_name table r = slice_index_or table.records r []

abbrev pub peer_name : Table → ℕ → Name
peer_name table p = slice_index_or table.peers p []

abbrev pub app_name : Table → ℕ → Name
app_name table app = slice_index_or (map (λ a. a.name) table.apps) app []

abbrev pub ops_of : Table → ℕ → List Op
ops_of table app = slice_index_or (map (λ a. a.ops) table.apps) app []

abbrev pub op_name : Table → ℕ → ℕ → Name
op_name table app op = slice_index_or (map (λ o. o.name) (ops_of table app)) op []

-- BYTES

-- a name: its length, and its bytes
abbrev pub name_bytes : Name → List ℕ
name_bytes name = length name ∷ name

-- a record is 1 and its name, a number is 2 and 8 bytes
abbrev pub arg_bytes : Table → Arg → List ℕ
arg_bytes table (Rec r) = 1 ∷ name_bytes (record_name table r)
arg_bytes table (Num n) = 2 ∷ to_be_bytes w64 n

-- how many, and each in turn
abbrev pub args_bytes : Table → List Arg → List ℕ
args_bytes table args = length args ∷ flat_map (arg_bytes table) args

abbrev pub records_bytes : Table → List ℕ → List ℕ
records_bytes table rs = length rs ∷ flat_map (λ r. name_bytes (record_name table r)) rs

-- the names of application and operation, the arguments, the read set and the write set
abbrev pub txn_bytes : Table → Txn → List ℕ
txn_bytes table t =
    name_bytes (app_name table t.app) ++ name_bytes (op_name table t.app t.op)
    ++ args_bytes table t.args ++ records_bytes table t.reads ++ records_bytes table t.writes

abbrev pub peers_bytes : Table → List ℕ → List ℕ
peers_bytes table ps = length ps ∷ flat_map (λ p. name_bytes (peer_name table p)) ps

-- the name of the application, the names of the agents, and tau
abbrev pub config_bytes : Table → Config → List ℕ
config_bytes table c = name_bytes (app_name table c.app) ++ peers_bytes table c.agents ++ c.tau ∷ []

-- the count of transactions and the transactions, or a count of 0 and the configuration
abbrev pub body_bytes : Table → List Txn → Option Config → List ℕ
body_bytes table txns None = to_be_bytes w32 (length txns) ++ flat_map (txn_bytes table) txns
body_bytes table txns (Some config) = to_be_bytes w32 0 ++ config_bytes table config

-- the number, the previous hash, and what the block carries
abbrev pub block_bytes : Table → Block → List ℕ
block_bytes table b = to_be_bytes w64 b.number ++ b.prev ++ body_bytes table b.txns b.config

unfoldable pub block_hash : Table → Block → List ℕ
block_hash table b = sha256 (block_bytes table b)
