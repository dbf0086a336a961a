-- What a document says of its applications: no order of checks, and no faults.
use Rattle.std.specs.Prelude.{◌≡◌, ◌≤◌, ℕ, List, [], ◌∷◌, length, codes, Option, map}
use Rattle.serde_json.specs.Data.{Data, object, Members}
use Rattle.serde_json.specs.Find.{get_member}
use Rattle.oxii_defs.specs.Syntax.{Op}
use Rattle.oxii_defs.specs.NameLists.{AllDiffer}
use Rattle.oxii_defs.specs.Table.{App}
use Rattle.contract_text.specs.TextMeaning.{IsContract}
use Rattle.doc_forms.specs.Meaning.{HasText, HasName, HasOnly, HasList, HasNames, HasAgents}

-- the names of applications
abbrev pub app_names : List App → List (List ℕ)
app_names apps = map (λ app. app.name) apps

-- the text of a contract, which stands for these operations by the grammar, the limits and the flaws
pub record HasContract (v : Option Data) (ops : List Op) : Type 0 where
  pub text : List ℕ
  pub is : HasText v text
  pub short : length text ≤ 65536
  pub is_contract : IsContract text ops

-- an application's object: its name, its agents among the peers, how many of their votes agree, its clients, and its operations
pub record SaysApp (peers : List (List ℕ)) (d : Data) (app : App) : Type 0 where
  pub members : Members
  pub is : d ≡ object members
  pub name : HasName (get_member (codes "name") members) app.name
  pub agents : HasAgents peers members app.agents app.tau
  pub clients : HasNames [] 0 64 (get_member (codes "clients") members) app.clients
  pub contract : HasContract (get_member (codes "contract") members) app.ops
  pub only : HasOnly (codes "name" ∷ codes "agents" ∷ codes "tau" ∷ codes "clients" ∷ codes "contract" ∷ []) members

-- 1 to 16 applications, whose names differ
pub record SaysApps (peers : List (List ℕ)) (ms : Members) (apps : List App) : Type 0 where
  pub list : HasList (SaysApp peers) 1 16 (get_member (codes "apps") ms) apps
  pub differ : AllDiffer (app_names apps)
