-- Lawful tables have well-formed operations.
use Rattle.std.proofs.Common.{◌≡◌, ℕ, List, Option, Some, None, slice_get, option_and_then, refl, subst}
use Rattle.std.specs.List.{All}
use Rattle.std.proofs.lemmas.Option.{slice_get_within, get_or_from_slice_get}
use Rattle.txn_types.specs.declared.txn.Txn.{Txn}
use Rattle.oxii_defs.specs.Syntax.{Op}
use Rattle.oxii_defs.specs.WellFormed.{IsWellFormed}
use Rattle.oxii_defs.specs.Table.{App, Table, op_in}
use Rattle.oxii_defs.specs.Lawful.{IsLawfulApp, IsLawfulTable}

-- what holds of each item holds of the one at a place
at_place : {X : Type 0} (P : X → Type 0) (xs : List X) (i : ℕ) (x : X) → All P xs → slice_get xs i ≡ Some x → P x
at_place P xs i x all e = subst P (get_or_from_slice_get xs i x x e) (all i x (slice_get_within xs i x e))

in_app : (table : Table) (t : Txn) (op : Op) → IsLawfulTable table → (o : Option App) → slice_get table.apps t.app ≡ o →
    option_and_then (λ app. slice_get app.ops t.op) o ≡ Some op → IsWellFormed op
in_app table t op lawful None a e = cc
in_app table t op lawful (Some app) a e =
    at_place IsWellFormed app.ops t.op op (at_place (IsLawfulApp table) table.apps t.app app lawful.lawful_apps a).well_formed e

pub op_well_formed : (table : Table) (t : Txn) (op : Op) → IsLawfulTable table → op_in table t ≡ Some op → IsWellFormed op
op_well_formed table t op lawful e = in_app table t op lawful (slice_get table.apps t.app) refl e
