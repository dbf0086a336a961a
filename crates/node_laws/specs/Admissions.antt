-- Which requests are admitted, and why the others are not: the rule, by what is in the table.
use Rattle.std.specs.Prelude.{◌≡◌, ◌≤◌, ◌<◌, ◌⊎◌, ◌↔◌, ℕ, List, [], ◌∷◌, length, Some, Result, Ok, Err, slice_get, Contains}
use Rattle.txn_types.specs.declared.txn.Arg.{Arg}
use Rattle.txn_types.specs.declared.txn.Arg.TheVariants as arg
use Rattle.txn_types.specs.declared.txn.Txn.{Txn}
use Rattle.txn_types.specs.declared.stream.Request.{Request}
use Rattle.txn_types.specs.declared.stream.Reject.{Reject}
use Rattle.txn_types.specs.declared.stream.Reject.TheVariants.{UnknownApp, ClientNotAllowed, UnknownOp, ArgCount, ArgKind, SetTooLarge}
use Rattle.oxii_defs.specs.Syntax.{ParamKind, RecKind, NumKind, Formal, Op}
use Rattle.oxii_defs.specs.Table.{App, Table}
use Rattle.oxii_defs.specs.Lawful.{IsLawfulTable}
use Rattle.node_defs.specs.Admission.{admit}

-- application number a has the request's name
pub record NamesApp (table : Table) (q : Request) (a : ℕ) (app : App) : Type 0 where
  pub at : slice_get table.apps a ≡ Some app
  pub name : app.name ≡ q.app

-- operation number o of an application has the request's name
pub record NamesOp (app : App) (q : Request) (o : ℕ) (op : Op) : Type 0 where
  pub at : slice_get app.ops o ≡ Some op
  pub name : op.name ≡ q.op

-- the request names operation o of application a, and its client is in the application's list
pub record NamesCall (table : Table) (q : Request) (a o : ℕ) (op : Op) : Type 0 where
  pub app : App
  pub names_app : NamesApp table q a app
  pub client : Contains app.clients q.client
  pub names_op : NamesOp app q o op

-- an argument of a parameter's kind
abbrev pub IsOfKind : ParamKind → Arg → Type 0
IsOfKind RecKind (arg.Rec r) = Unit {0}
IsOfKind NumKind (arg.Num n) = Unit {0}
IsOfKind _ _ = ⊥

-- as many arguments as parameters, each of its kind
abbrev pub AreOfKinds : List Formal → List Arg → Type 0
AreOfKinds [] [] = Unit {0}
AreOfKinds (p ∷ params) (a ∷ args) = IsOfKind p.kind a × AreOfKinds params args
AreOfKinds _ _ = ⊥

-- the request is admitted as this transaction
pub record IsAdmittedAs (table : Table) (q : Request) (t : Txn) : Type 0 where
  pub op : Op
  pub call : NamesCall table q t.app t.op op
  pub kinds : AreOfKinds op.params q.args
  pub reads_few : length q.reads ≤ 16
  pub writes_few : length q.writes ≤ 16
  pub args : t.args ≡ q.args
  pub reads : t.reads ≡ q.reads
  pub writes : t.writes ≡ q.writes

-- the request is rejected for this reason, and for none before it
abbrev pub IsRejectedFor : Table → Request → Reject → Type 0
IsRejectedFor table q UnknownApp = (a : ℕ) (app : App) → NamesApp table q a app → ⊥
IsRejectedFor table q ClientNotAllowed = (a : ℕ) × (app : App) × NamesApp table q a app × (¬ Contains app.clients q.client)
IsRejectedFor table q UnknownOp =
    (a : ℕ) × (app : App) × NamesApp table q a app × Contains app.clients q.client × ((o : ℕ) (op : Op) → NamesOp app q o op → ⊥)
IsRejectedFor table q ArgCount = (a : ℕ) × (o : ℕ) × (op : Op) × NamesCall table q a o op × (¬ (length q.args ≡ length op.params))
IsRejectedFor table q ArgKind =
    (a : ℕ) × (o : ℕ) × (op : Op) × NamesCall table q a o op × (length q.args ≡ length op.params) × (¬ AreOfKinds op.params q.args)
IsRejectedFor table q SetTooLarge =
    (a : ℕ) × (o : ℕ) × (op : Op) × NamesCall table q a o op × AreOfKinds op.params q.args × ((16 < length q.reads) ⊎ (16 < length q.writes))

-- what an answer says
abbrev pub IsRightAnswer : Table → Request → Result Txn Reject → Type 0
IsRightAnswer table q (Ok t) = IsAdmittedAs table q t
IsRightAnswer table q (Err why) = IsRejectedFor table q why

-- in a lawful table the answer to a request is the right one, and no other is
abbrev pub AdmissionIsMeant : Type 0
AdmissionIsMeant = (table : Table) (q : Request) (answer : Result Txn Reject) → IsLawfulTable table → IsRightAnswer table q answer ↔ (answer ≡ admit table q)
