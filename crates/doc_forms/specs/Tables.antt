-- Tables of names, new names, and references.
use Rattle.std.specs.Prelude.{ℕ, ◌==◌, ◌||◌, Bool, List, [], ◌∷◌, ◌++◌, Option, Some, None, option_and_then, option_map, Result, Ok, Err, nat_lt, if◌then◌else◌, position}
use Rattle.std.specs.List.{list_any, count_by, insert}
use Rattle.std.specs.Option.{option_or}
use Rattle.std.specs.Str.{bytes_eq}
use Rattle.txn_types.specs.declared.message.Node.{Node}
use Rattle.txn_types.specs.declared.message.Node.TheVariants.{Peer, Orderer}
use Rattle.serde_json.specs.Data.{Data}
use Rattle.doc_forms.specs.Faults.{Fault, Name, Double}
use Rattle.doc_forms.specs.Check.{◌>>=◌}
use Rattle.doc_forms.specs.Forms.{name, is_listed}

-- the position of a name in a table
unfoldable pub place_of : List (List ℕ) → List ℕ → Option ℕ
place_of names text = position (λ other. bytes_eq other text) names

-- a number, where it is below this bound
abbrev pub below : ℕ → ℕ → Option ℕ
below bound n = if nat_lt n bound then Some n else None

-- the position of a name in a table, as a number below this bound
unfoldable pub place_below : ℕ → List (List ℕ) → List ℕ → Option ℕ
place_below bound names text = option_and_then (below bound) (place_of names text)

-- a peer or an orderer by its name
unfoldable pub node_named : List (List ℕ) → List (List ℕ) → List ℕ → Option Node
node_named orderers peers text = option_or (option_map Peer (place_below 256 peers text)) (option_map Orderer (place_below 256 orderers text))

-- a name that is neither among the taken ones nor among those before it
unfoldable pub new_name : List (List ℕ) → List (List ℕ) → Data → Result (List (List ℕ)) Fault
new_name taken before d = do
  text ← name (Some d)
  if is_listed taken text || is_listed before text then Err (Double []) else Ok (before ++ text ∷ [])

abbrev pub found : {E : Type 0} → Option E → Result E Fault
found (Some e) = Ok e
found None = Err (Name [])

-- a name, and it leads to an entry
unfoldable pub reference : {E : Type 0} → (List ℕ → Option E) → Option Data → Result E Fault
reference lookup v = do
  text ← name v
  found (lookup text)

-- one of the entries has this rank
unfoldable pub has_rank : {E : Type 0} → (E → ℕ) → List E → ℕ → Bool
has_rank rank entries n = list_any (λ other. rank other == n) entries

-- how many of the entries have a lower rank: the position among entries that rise
unfoldable pub count_below : {E : Type 0} → (E → ℕ) → List E → ℕ → ℕ
count_below rank entries n = count_by (λ other. nat_lt (rank other) n) entries

-- an entry, put among entries that rise
abbrev pub put_in : {E : Type 0} → (E → ℕ) → List E → E → List E
put_in rank entries e = insert entries (count_below rank entries (rank e)) e

-- a reference that isn't among those before it, put where it belongs
unfoldable pub new_reference : {E : Type 0} → (E → ℕ) → (List ℕ → Option E) → List E → Data → Result (List E) Fault
new_reference rank lookup before d = do
  e ← reference lookup (Some d)
  if has_rank rank before (rank e) then Err (Double []) else Ok (put_in rank before e)
