-- What a row is run on: a block of which nothing is known, and all is to be run.
use Rattle.std.specs.Prelude.{◌≡◌, ◌<◌, ℕ, Bool, true, List, length, Option}
use Rattle.txn_types.specs.declared.block.Block.{Block}
use Rattle.txn_types.specs.declared.txn.Outcome.{Outcome}
use Rattle.oxii_defs.specs.Lawful.{IsLawfulBlock}
use Rattle.board_defs.specs.Closure as meant
use Rattle.txn_core.specs.declared.table.Table.{Table}
use Rattle.txn_core.specs.declared.graph.Graph.{Graph}
use Rattle.txn_core.specs.MeantTable.{table_of}
use Rattle.txn_core.specs.States.{state_of}
use Rattle.txn_core.specs.Graphs.{IsGraphOf}

-- the plan of the definitions
abbrev pub plan_with : Table → List ℕ → Block → List (Option Outcome) → List Bool → meant.Plan
plan_with table base block known own = record { table = table_of table; txns = block.txns; base = state_of base; known = known; own = own }

pub record IsSet (table : Table) (base : List ℕ) (block : Block) (graph : Graph) (known : List (Option Outcome)) (own : List Bool) : Type 0 where
  pub plan : meant.IsLawfulPlan (plan_with table base block known own)
  pub lawful : IsLawfulBlock (table_of table) block
  pub preds : IsGraphOf block.txns graph
  pub kind : graph.kind ≡ table.kind
  pub values : length base ≡ length table.records
  pub all_own : (t : ℕ) → t < length block.txns → meant.is_own (plan_with table base block known own) t ≡ true
