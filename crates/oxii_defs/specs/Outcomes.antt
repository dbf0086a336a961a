-- What a transaction comes to, as a program.
use Rattle.std.specs.Prelude.{ℕ, List, Ok, Err, map}
use Rattle.std.specs.FinMap as map
use Rattle.oxii_defs.specs.Syntax.{Stmts}
use Rattle.oxii_defs.specs.State.{State}
use Rattle.oxii_defs.specs.Calls.{Frame, call_in, fresh}
use Rattle.oxii_defs.specs.Table.{Table, body_in}
use Rattle.oxii_defs.specs.Running.{Answer, after_all}
use Rattle.txn_types.specs.declared.txn.Txn.{Txn}
use Rattle.txn_types.specs.declared.txn.Outcome.{Outcome}
use Rattle.txn_types.specs.declared.txn.Outcome.TheVariants.{Commit, Abort}

-- where the body ends, or why it stops
unfoldable pub run : Stmts → Txn → State → Answer Frame
run body t s = after_all (call_in s t) body (fresh t.writes)

abbrev pub outcome_from : List ℕ → Answer Frame → Outcome
outcome_from writes (Ok f) = Commit (map (map.get f.written) writes)
outcome_from writes (Err r) = Abort r

abbrev pub outcome : Stmts → Txn → State → Outcome
outcome body t s = outcome_from t.writes (run body t s)

-- what the transaction means in the state s, by the operations of the table
abbrev pub outcome_in : Table → State → Txn → Outcome
outcome_in table s t = outcome (body_in table t) t s
