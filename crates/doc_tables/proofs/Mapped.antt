-- A test of what is made of each.
use Rattle.std.proofs.Common.{◌≡◌, ◌||◌, List, [], ◌∷◌, ℕ, map, refl, ap}
use Rattle.std.specs.List.{list_any}
use Rattle.std.specs.Str.{bytes_eq}
use Rattle.txn_core.specs.declared.table.App.{App}
use Rattle.txn_core.specs.MeantTable.{app_of}
use Rattle.doc_forms.specs.Forms.{is_listed}
use Rattle.doc_tables.specs.AppsMeaning.{app_names}

-- an application has the name
pub any_named : (apps : List App) (text : List ℕ) → list_any (λ app. bytes_eq app.name text) apps ≡ is_listed (app_names (map app_of apps)) text
unfolding is_listed
any_named [] text = refl
any_named (app ∷ apps) text = ap (λ b. bytes_eq app.name text || b) (any_named apps text)
