-- The applications of a document, with their first fault.
use Rattle.std.specs.Prelude.{ℕ, List, [], ◌∷◌, ◌++◌, length, codes, Option, Some, option_and_then, Result, Ok, Err, nat_le, if◌then◌else◌, ⊤}
use Rattle.serde_json.specs.Data.{Data, Members}
use Rattle.serde_json.specs.Find.{as_str}
use Rattle.oxii_defs.specs.Syntax.{Op}
use Rattle.oxii_defs.specs.Table.{App}
use Rattle.contract_text.specs.declared.flaws.FlawKind.{FlawKind}
use Rattle.contract_text.specs.declared.flaws.FlawKind.TheVariants as flaw
use Rattle.contract_text.specs.TextFaults.{Judge, Verdict, accepted, syntax_fault, limit_fault, flawed}
use Rattle.doc_forms.specs.declared.fault.Which.TheVariants as word
use Rattle.doc_forms.specs.Faults.{Fault, TextKind, Limit, Contract, Double}
use Rattle.doc_forms.specs.Faults as kind
use Rattle.doc_forms.specs.Check.{◌>>=◌}
use Rattle.doc_forms.specs.Forms.{wanted, name, object, at, only, items, list_at, is_listed}
use Rattle.doc_forms.specs.Tables.{new_name}
use Rattle.doc_forms.specs.Agents.{agents_and_tau}
use Rattle.doc_tables.specs.AppsMeaning.{app_names}

-- a name that no application before it has
unfoldable pub unused : List App → Option Data → Result (List ℕ) Fault
unused before v = do
  text ← name v
  if is_listed (app_names before) text then Err (Double []) else Ok text

unfoldable pub unused_at : List ℕ → List App → Members → Result (List ℕ) Fault
unused_at k before ms = at k ms (unused before)

abbrev pub text_kind_of : FlawKind → TextKind
text_kind_of flaw.Double = kind.Double
text_kind_of flaw.UnknownName = kind.UnknownName
text_kind_of flaw.Kind = kind.Kind

-- what the text of the application with this index comes to
abbrev pub ops_told : ℕ → Verdict → Result (List Op) Fault
ops_told app (accepted ops) = Ok ops
ops_told app (syntax_fault at) = Err (Contract app kind.Syntax at)
ops_told app (limit_fault at) = Err (Contract app kind.Limit at)
ops_told app (flawed f) = Err (Contract app (text_kind_of f.kind) f.at)

-- a text of at most 65,536 bytes, and then what it comes to
unfoldable pub text_read : Judge → ℕ → List ℕ → Result (List Op) Fault
text_read judge app text = if nat_le (length text) 65536 then ops_told app (judge text) else Err (Limit word.Contract 65536)

-- the contract of the application with this index
unfoldable pub contract : Judge → ℕ → Option Data → Result (List Op) Fault
contract judge app v = do
  text ← wanted (option_and_then as_str v)
  text_read judge app text

unfoldable pub contract_at : Judge → List ℕ → ℕ → Members → Result (List Op) Fault
contract_at judge k app ms = at k ms (contract judge app)

unfoldable pub only_app_keys : Members → Result ⊤ Fault
only_app_keys ms = only (codes "name" ∷ codes "agents" ∷ codes "tau" ∷ codes "clients" ∷ codes "contract" ∷ []) ms

-- an application after those before it
unfoldable pub application : Judge → List (List ℕ) → List App → Members → Result App Fault
application judge peers before ms = do
  called ← unused_at (codes "name") before ms
  who ← agents_and_tau peers ms
  clients ← list_at (codes "clients") 0 64 word.Clients (new_name []) [] ms
  ops ← contract_at judge (codes "contract") (length before) ms
  rest ← only_app_keys ms
  Ok (record { name = called; agents = who.agents; tau = who.tau; clients = clients; ops = ops })

-- the application that an item is
unfoldable pub app_in : Judge → List (List ℕ) → List App → Data → Result App Fault
app_in judge peers before d = do
  ms ← object (Some d)
  application judge peers before ms

unfoldable pub next_app : Judge → List (List ℕ) → List App → Data → Result (List App) Fault
next_app judge peers before d = do
  app ← app_in judge peers before d
  Ok (before ++ app ∷ [])

unfoldable pub apps_in : Judge → List (List ℕ) → Option Data → Result (List App) Fault
apps_in judge peers v = items 1 16 word.Apps (next_app judge peers) [] v

-- the applications, whose agents are among these peers
unfoldable pub apps : Judge → List (List ℕ) → Members → Result (List App) Fault
apps judge peers ms = at (codes "apps") ms (apps_in judge peers)
