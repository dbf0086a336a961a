-- Lawful tables, and what is lawful for a table: transactions, configurations, blocks.
use Rattle.std.specs.Prelude.{◌≡◌, ◌≤◌, ◌<◌, ◌++◌, ℕ, List, [], length, map, Option, Some, None}
use Rattle.std.specs.List.{All, AllByRecursion}
use Rattle.txn_types.specs.declared.block.Config.{Config}
use Rattle.txn_types.specs.declared.txn.Txn.{Txn}
use Rattle.txn_types.specs.Names.{IsName}
use Rattle.txn_types.specs.Rising.{IsRising}
use Rattle.txn_types.specs.declared.txn.Arg.{Arg}
use Rattle.txn_types.specs.declared.txn.Arg.TheVariants as arg
use Rattle.txn_types.specs.declared.block.Block.{Block}
use Rattle.oxii_defs.specs.WellFormed.{IsWellFormed, Match}
use Rattle.oxii_defs.specs.NameLists.{AllDiffer, AreInOrder}
use Rattle.oxii_defs.specs.Table.{App, Table, op_in}
use Rattle.oxii_defs.specs.Syntax.{Op}

-- from one on, up to a limit
abbrev pub IsUpTo : ℕ → ℕ → Type 0
IsUpTo limit n = (0 < n) × (n ≤ limit)

-- agents, and how many of their votes agree: peers of the table, rising, and no more votes than agents
pub record AreAgents (table : Table) (agents : List ℕ) (tau : ℕ) : Type 0 where
  pub count : IsUpTo 16 (length agents)
  pub peers : All (λ p. p < length table.peers) agents
  pub rising : IsRising agents
  pub votes : IsUpTo (length agents) tau

-- an application of the table
pub record IsLawfulApp (table : Table) (app : App) : Type 0 where
  pub named : IsName app.name
  pub agents : AreAgents table app.agents app.tau
  pub clients : length app.clients ≤ 64
  pub clients_named : All IsName app.clients
  pub client_names : AllDiffer app.clients
  pub ops : IsUpTo 16 (length app.ops)
  pub ops_named : All (λ op. IsName op.name) app.ops
  pub op_names : AllDiffer (map (λ op. op.name) app.ops)
  pub well_formed : All IsWellFormed app.ops

-- the counts, ranges and names that each document's table has
pub record IsLawfulTable (table : Table) : Type 0 where
  pub records : length table.records ≤ 4096
  pub records_named : All IsName table.records
  pub record_names : AreInOrder table.records
  pub orderers : IsUpTo 16 (length table.orderers)
  pub orderers_named : All IsName table.orderers
  pub quorum : IsUpTo (length table.orderers) table.quorum
  pub peers : IsUpTo 16 (length table.peers)
  pub peers_named : All IsName table.peers
  pub node_names : AllDiffer (table.orderers ++ table.peers)
  pub apps : IsUpTo 16 (length table.apps)
  pub app_names : AllDiffer (map (λ app. app.name) table.apps)
  pub lawful_apps : All (IsLawfulApp table) table.apps

-- a configuration of an application of the table
pub record IsLawfulConfig (table : Table) (config : Config) : Type 0 where
  pub app : config.app < length table.apps
  pub agents : AreAgents table config.agents config.tau

abbrev pub IsRecord : Table → ℕ → Type 0
IsRecord table r = r < length table.records

abbrev pub IsKnown : Table → Arg → Type 0
IsKnown table (arg.Rec r) = IsRecord table r
IsKnown table (arg.Num n) = Unit {0}

-- its application and operation exist, its arguments match, and its records exist
pub record IsLawfulTxn (table : Table) (t : Txn) : Type 0 where
  pub op : Op
  pub named : op_in table t ≡ Some op
  pub matched : Match op.params t.args
  pub args : AllByRecursion (IsKnown table) t.args
  pub reads : AllByRecursion (IsRecord table) t.reads
  pub writes : AllByRecursion (IsRecord table) t.writes

-- 1 to 256 lawful transactions and no configuration, or a lawful configuration and no transaction
abbrev pub IsLawfulBody : Table → List Txn → Option Config → Type 0
IsLawfulBody table txns None = IsUpTo 256 (length txns) × All (IsLawfulTxn table) txns
IsLawfulBody table txns (Some config) = (txns ≡ []) × IsLawfulConfig table config

-- a block that a chain of the table can have
abbrev pub IsLawfulBlock : Table → Block → Type 0
IsLawfulBlock table b = IsLawfulBody table b.txns b.config
