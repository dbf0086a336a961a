-- What a peer works by, and what is in force after blocks.
use Rattle.std.specs.Prelude.{ℕ, ◌==◌, if◌then◌else◌, List, [], ◌∷◌, map, Option, Some, None, ◌≡◌, true}
use Rattle.std.specs.List.{slice_index_or}
use Rattle.txn_types.specs.declared.txn.Outcome.{Outcome}
use Rattle.txn_types.specs.declared.txn.Txn.{Txn}
use Rattle.txn_types.specs.declared.block.Config.{Config}
use Rattle.txn_types.specs.declared.block.Block.{Block}
use Rattle.oxii_defs.specs.State.{State, value_in, contains}
use Rattle.oxii_defs.specs.Table.{Table}
use Rattle.oxii_defs.specs.BlockBytes.{block_hash}
use Rattle.oxii_defs.specs.Lines.{Entry}

-- the table and the genesis state, what a transaction comes to in a state, the hash of a block,
-- and for each application its agents and how many of their votes agree
pub record Rules : Type 0 where
  pub table : Table
  pub genesis : State
  pub outcome : State → Txn → Outcome
  pub hash : Block → List ℕ
  pub agents : ℕ → List ℕ
  pub tau : ℕ → ℕ

-- the agents that a table gives an application
abbrev pub agents_in : Table → ℕ → List ℕ
agents_in table app = slice_index_or (map (λ a. a.agents) table.apps) app []

-- how many of the agents' votes a table asks for
abbrev pub tau_in : Table → ℕ → ℕ
tau_in table app = slice_index_or (map (λ a. a.tau) table.apps) app 0

-- the rules of a document whose transactions come to these outcomes: hashes are those of the blocks' bytes
abbrev pub rules_by : (State → Txn → Outcome) → Table → State → Rules
rules_by outcomes table genesis = record {
  table = table;
  genesis = genesis;
  outcome = outcomes;
  hash = block_hash table;
  agents = agents_in table;
  tau = tau_in table;
}

-- a configuration changes its own application alone
abbrev pub changed : {A : Type 0} → Option Config → (Config → A) → ℕ → A → A
changed None of app before = before
changed (Some c) of app before = if c.app == app then of c else before

-- the agents after these blocks, the latest first
abbrev pub agents_behind : Rules → List Block → ℕ → List ℕ
agents_behind rules [] app = rules.agents app
agents_behind rules (b ∷ before) app = changed b.config (λ c. c.agents) app (agents_behind rules before app)

-- how many votes are to agree after these blocks
abbrev pub tau_behind : Rules → List Block → ℕ → ℕ
tau_behind rules [] app = rules.tau app
tau_behind rules (b ∷ before) app = changed b.config (λ c. c.tau) app (tau_behind rules before app)

-- the rules that are in force after these blocks
abbrev pub in_force_behind : Rules → List Block → Rules
in_force_behind rules blocks = record {
  table = rules.table;
  genesis = rules.genesis;
  outcome = rules.outcome;
  hash = rules.hash;
  agents = agents_behind rules blocks;
  tau = tau_behind rules blocks;
}

-- the rules that are in force after a ledger
abbrev pub in_force : Rules → List Entry → Rules
in_force rules done = in_force_behind rules (map (λ e. e.block) done)

-- an outcome depends on the values of the records that are read
abbrev pub IsLocal : Rules → Type 0
IsLocal rules = (s u : State) (t : Txn) → ((r : ℕ) → contains t.reads r ≡ true → value_in s r ≡ value_in u r) → rules.outcome s t ≡ rules.outcome u t
