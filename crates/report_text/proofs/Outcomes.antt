-- The outcomes of a transaction, by its write set alone.
use Rattle.std.proofs.Common.{◌≡◌, refl}
use Rattle.txn_types.specs.declared.txn.Txn.{Txn}
use Rattle.txn_types.specs.declared.txn.Outcome.{Outcome}
use Rattle.txn_types.specs.declared.txn.Outcome.TheVariants.{Commit, Abort}
use Rattle.oxii_defs.specs.Table.{Table}
use Rattle.oxii_defs.specs.Lines.{outcome_text}
use Rattle.node_defs.specs.Text.{written_text}

pub outcome_is_written : (table : Table) (t : Txn) (o : Outcome) → written_text table t.writes o ≡ outcome_text table t o
outcome_is_written table t (Commit entries) = refl
outcome_is_written table t (Abort reason) = refl
