-- What the workers of a plan run.
use Rattle.std.specs.Prelude.{◌≡◌, List}
use Rattle.txn_types.specs.declared.txn.Txn.{Txn}
use Rattle.oxii_defs.specs.Table.{Table}
use Rattle.board_defs.specs.Closure.{Plan, IsLawfulPlan}

-- the table and the transactions are those of a lawful plan
pub record IsTask (plan : Plan) (evaluated : Table) (listed : List Txn) : Type 0 where
  pub table : evaluated ≡ plan.table
  pub txns : listed ≡ plan.txns
  pub lawful : IsLawfulPlan plan
