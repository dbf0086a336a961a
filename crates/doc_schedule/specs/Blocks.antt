-- The blocks of false messages.
use Rattle.std.specs.Prelude.{ℕ, ◌+◌, ◌==◌, ◌&&◌, Bool, true, false, List, [], ◌∷◌, ◌++◌, codes, length, Option, Some, None, Result, Ok, Err, nat_lt, if◌then◌else◌, slice_get, is_some}
use Rattle.std.specs.List.{list_all}
use Rattle.std.specs.Borrow.{Bor}
use Rattle.serde_json.specs.Data.{Data, Items, no_items, item, Members}
use Rattle.serde_json.specs.Find.{as_array}
use Rattle.serde_json.specs.Events.{items_len}
use Rattle.serde_json.specs.View.{view}
use Rattle.serde_json.specs.declared.value.Value.{Value}
use Rattle.doc_forms.specs.declared.fault.Which.TheVariants as word
use Rattle.doc_forms.specs.Faults.{Fault, Field, Limit}
use Rattle.doc_forms.specs.Check.{◌>>=◌}
use Rattle.doc_forms.specs.Forms.{at, wanted, each, items, list_in, only}
use Rattle.doc_schedule.specs.declared.tables.ItemRole.{ItemRole}
use Rattle.doc_schedule.specs.declared.tables.ItemRole.TheVariants.{Barred, Call, Config}
use Rattle.doc_schedule.specs.Places.{place_in}
use Rattle.doc_schedule.specs.Hashes.{prev_at}

-- a role that may be missing, without where it lies in memory
abbrev pub role_at : Option (Bor ItemRole) → Option ItemRole
role_at None = None
role_at (Some s) = Some s.now

-- a request may be among others, a configuration alone
abbrev pub may_stand : Bool → Option ItemRole → Bool
may_stand alone None = false
may_stand alone (Some Barred) = false
may_stand alone (Some Call) = true
may_stand alone (Some Config) = alone

-- the position of an item that may be there
unfoldable pub next_txn : List ItemRole → Bool → List ℕ → Data → Result (List ℕ) Fault
next_txn roles alone before d = do
  place ← place_in (length roles) word.Item (Some d)
  if may_stand alone (slice_get roles place) then Ok (before ++ place ∷ []) else Err (Field [])

-- as many items as the limit of all lists together leaves room for: the sum is tested before the items
unfoldable pub txns_within : List ItemRole → ℕ → Items → Result (List ℕ) Fault
txns_within roles total ds = if nat_lt 16384 (total + items_len ds) then Err (Limit word.FalseTxns 16384) else each (next_txn roles (items_len ds == 1)) 0 [] ds

unfoldable pub txns_of : List ItemRole → ℕ → Option Data → Result (List ℕ) Fault
txns_of roles total v = do
  ds ← list_in 1 256 word.Txns v
  txns_within roles total ds

-- the items of a `block` event, after so many items of the events before it
unfoldable pub txns_at : List ItemRole → ℕ → Members → Result (List ℕ) Fault
txns_at roles total ms = at (codes "txns") ms (txns_of roles total)

unfoldable pub next_pred : List ℕ → Data → Result (List ℕ) Fault
next_pred before d = do
  place ← place_in 256 word.Preds (Some d)
  Ok (before ++ place ∷ [])

unfoldable pub next_preds : List (List ℕ) → Data → Result (List (List ℕ)) Fault
next_preds before d = do
  places ← items 0 256 word.Preds next_pred [] (Some d)
  Ok (before ++ places ∷ [])

unfoldable pub are_arrays : Items → Bool
are_arrays no_items = true
are_arrays (item d ds) = is_some (as_array d) && are_arrays ds

-- the same of values
unfoldable pub is_array_value : Value → Bool
is_array_value v = is_some (as_array (view v))

unfoldable pub are_array_values : List Value → Bool
are_array_values vs = list_all is_array_value vs

-- so many arrays: that is tested before anything in them
unfoldable pub lists_of : ℕ → Items → Result (List (List ℕ)) Fault
lists_of count ds = if (items_len ds == count) && are_arrays ds then each next_preds 0 [] ds else Err (Field [])

-- a graph, which may be left out
unfoldable pub preds : ℕ → Option Data → Result (Option (List (List ℕ))) Fault
preds count None = Ok None
preds count (Some d) = do
  ds ← wanted (as_array d)
  lists ← lists_of count ds
  Ok (Some lists)

-- it is a configuration's
abbrev pub is_config_role : Option ItemRole → Bool
is_config_role None = false
is_config_role (Some Barred) = false
is_config_role (Some Call) = false
is_config_role (Some Config) = true

abbrev pub first_role : List ItemRole → List ℕ → Option ItemRole
first_role roles [] = None
first_role roles (i ∷ rest) = slice_get roles i

-- how many transactions the items are: a configuration is alone and is none
unfoldable pub count_of : List ItemRole → List ℕ → ℕ
count_of roles items = if is_config_role (first_role roles items) then 0 else length items

-- the graph of a `block` event with these items
unfoldable pub preds_at : List ItemRole → List ℕ → Members → Result (Option (List (List ℕ))) Fault
preds_at roles items ms = at (codes "preds") ms (preds (count_of roles items))

-- the previous hash and the graph of a `block` event with these items, after which no other key is listed
unfoldable pub links_at : List ItemRole → List ℕ → Members → Result (Option (List ℕ) × Option (List (List ℕ))) Fault
links_at roles items ms = do
  prev ← prev_at ms
  preds ← preds_at roles items ms
  end ← only (codes "do" ∷ codes "from" ∷ codes "number" ∷ codes "txns" ∷ codes "prev" ∷ codes "preds" ∷ []) ms
  Ok (prev, preds)
