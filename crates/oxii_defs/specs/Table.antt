-- The table: what a document says of records, nodes and applications.
use Rattle.std.specs.Prelude.{ℕ, List, Option, Some, None, option_and_then, slice_get}
use Rattle.oxii_defs.specs.Syntax.{Name, Op, Stmts, Done}
use Rattle.txn_types.specs.declared.txn.Kind.{Kind}
use Rattle.txn_types.specs.declared.txn.Txn.{Txn}

pub record App : Type 0 where
  pub name : Name
  pub agents : List ℕ
  pub tau : ℕ
  pub clients : List Name
  pub ops : List Op

pub record Table : Type 0 where
  pub kind : Kind
  pub records : List Name
  pub orderers : List Name
  pub quorum : ℕ
  pub peers : List Name
  pub apps : List App

-- the operation that a transaction names
abbrev pub op_in : Table → Txn → Option Op
op_in table t = option_and_then (λ app. slice_get app.ops t.op) (slice_get table.apps t.app)

abbrev pub body_of : Option Op → Stmts
body_of None = Done
body_of (Some op) = op.body

-- the body of that operation
abbrev pub body_in : Table → Txn → Stmts
body_in table t = body_of (op_in table t)
