-- What is looked up by name in a lawful table is lawful.
use Rattle.std.proofs.Common.{◌≡◌, ℕ, Some}
use Rattle.oxii_defs.specs.Syntax.{Name, Op}
use Rattle.oxii_defs.specs.WellFormed.{IsWellFormed}
use Rattle.oxii_defs.specs.Table.{App, Table}
use Rattle.oxii_defs.specs.Lawful.{IsLawfulApp, IsLawfulTable}
use Rattle.node_defs.specs.Admission.{first_named}
use Rattle.node_defs.proofs.Admitted.{at_number, found_by_name}

pub found_app : (table : Table) (name : Name) (i : ℕ) (app : App) → IsLawfulTable table → first_named (λ app. app.name) name 0 table.apps ≡ Some (i, app) → IsLawfulApp table app
found_app table name i app lawful e = at_number (IsLawfulApp table) table.apps i app lawful.lawful_apps (found_by_name (λ (a : App). a.name) name table.apps (i, app) e)

pub found_op : (table : Table) (name : Name) (i : ℕ) (app : App) (op : Op) → IsLawfulApp table app → first_named (λ op. op.name) name 0 app.ops ≡ Some (i, op) → IsWellFormed op
found_op table name i app op lawful e = at_number IsWellFormed app.ops i op lawful.well_formed (found_by_name (λ (o : Op). o.name) name app.ops (i, op) e)
