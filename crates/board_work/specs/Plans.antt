-- What a plan stands for, and when it can be run.
use Rattle.std.specs.Prelude.{◌≡◌, length}
use Rattle.oxii_defs.specs.Lawful.{IsLawfulBlock}
use Rattle.board_defs.specs.Closure as meant
use Rattle.txn_core.specs.MeantTable.{table_of}
use Rattle.txn_core.specs.States.{state_of}
use Rattle.txn_core.specs.Graphs.{IsGraphOf}
use Rattle.board_work.specs.declared.plan.Plan.{Plan}

-- the plan of the definitions
abbrev pub plan_of : Plan → meant.Plan
plan_of p = record { table = table_of p.table.now; txns = p.block.now.txns; base = state_of p.base.now; known = p.known.now; own = p.own.now }

-- a lawful plan of a lawful block, with the block's graph of the table's kind and a value for each record
pub record IsRunnable (p : Plan) : Type 0 where
  pub plan : meant.IsLawfulPlan (plan_of p)
  pub block : IsLawfulBlock (table_of p.table.now) p.block.now
  pub graph : IsGraphOf p.block.now.txns p.graph.now
  pub kind : p.graph.now.kind ≡ p.table.now.kind
  pub values : length p.base.now ≡ length p.table.now.records
