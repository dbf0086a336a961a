-- What a stream says, key by key: no order of checks, and no faults.
use Rattle.std.specs.Prelude.{◌≡◌, ◌≤◌, ℕ, Bool, true, false, List, [], ◌∷◌, codes, Some, None}
use Rattle.std.specs.List.{count_by}
use Rattle.serde_json.specs.Data.{Data, string, object, Members}
use Rattle.serde_json.specs.Find.{get_member}
use Rattle.txn_types.specs.Values.{max_value}
use Rattle.txn_types.specs.declared.txn.Arg.{Arg}
use Rattle.txn_types.specs.declared.txn.Arg.TheVariants.{Rec, Num}
use Rattle.txn_types.specs.declared.block.Config.{Config}
use Rattle.txn_types.specs.declared.stream.Request.{Request}
use Rattle.txn_types.specs.declared.stream.Item.{Item}
use Rattle.txn_types.specs.declared.stream.Item.TheVariants as item
use Rattle.doc_forms.specs.Meaning.{IsNameAt, HasNumber, HasName, HasReference, HasOnly, HasList, HasSet, HasAgents}

-- a string is the name of a record, and a number is itself
abbrev pub SaysArg : List (List ℕ) → Data → Arg → Type 0
SaysArg records d (Rec r) = HasReference (IsNameAt records) (Some d) r
SaysArg records d (Num n) = HasNumber 0 max_value (Some d) n

-- an object says a request
pub record SaysRequest (records : List (List ℕ)) (ms : Members) (r : Request) : Type 0 where
  pub client : HasName (get_member (codes "client") ms) r.client
  pub app : HasName (get_member (codes "app") ms) r.app
  pub op : HasName (get_member (codes "op") ms) r.op
  pub args : HasList (SaysArg records) 0 64 (get_member (codes "args") ms) r.args
  pub reads : HasSet (λ r. r) (IsNameAt records) 0 64 (get_member (codes "reads") ms) r.reads
  pub writes : HasSet (λ r. r) (IsNameAt records) 0 64 (get_member (codes "writes") ms) r.writes
  pub only : HasOnly (codes "client" ∷ codes "app" ∷ codes "op" ∷ codes "args" ∷ codes "reads" ∷ codes "writes" ∷ []) ms

-- an object says a configuration
pub record SaysConfig (apps peers : List (List ℕ)) (ms : Members) (c : Config) : Type 0 where
  pub app : HasReference (IsNameAt apps) (get_member (codes "config") ms) c.app
  pub agents : HasAgents peers ms c.agents c.tau
  pub only : HasOnly (codes "config" ∷ codes "agents" ∷ codes "tau" ∷ []) ms

-- an item: the string `cut`, an object with the key `config`, or a request object without it
pub data SaysItem (records apps peers : List (List ℕ)) : Data → Item → Type 0 where
  mark : SaysItem records apps peers (string (codes "cut")) item.Mark
  ask : {ms : Members} {r : Request} → get_member (codes "config") ms ≡ None → SaysRequest records ms r → SaysItem records apps peers (object ms) (item.Ask r)
  change : {ms : Members} {d : Data} {c : Config} → get_member (codes "config") ms ≡ Some d → SaysConfig apps peers ms c → SaysItem records apps peers (object ms) (item.Config c)

abbrev pub is_request : Item → Bool
is_request (item.Ask r) = true
is_request _ = false

abbrev pub is_config : Item → Bool
is_config (item.Config c) = true
is_config _ = false

-- the stream: its items, with at most 4,096 requests and at most 256 configurations among them
pub record SaysStream (records apps peers : List (List ℕ)) (ms : Members) (items : List Item) : Type 0 where
  pub list : HasList (SaysItem records apps peers) 0 8192 (get_member (codes "stream") ms) items
  pub requests : count_by is_request items ≤ 4096
  pub configs : count_by is_config items ≤ 256
