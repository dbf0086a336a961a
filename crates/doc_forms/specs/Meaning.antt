-- What a document's values say, form by form: no order of checks, and no faults.
use Rattle.std.specs.Prelude.{◌≡◌, ◌≢◌, ◌≤◌, ◌↔◌, ℕ, List, [], ◌∷◌, ◌++◌, map, slice_get, Option, Some, codes, length}
use Rattle.std.specs.List.{All, Contains}
use Rattle.serde_json.specs.Data.{Data, number, unsigned, string, array, Items, no_items, item, Members, no_members, member}
use Rattle.serde_json.specs.Events.{items_len}
use Rattle.serde_json.specs.Find.{get_member}
use Rattle.txn_types.specs.Names.{IsName}
use Rattle.txn_types.specs.declared.message.Node.{Node}
use Rattle.txn_types.specs.declared.message.Node.TheVariants.{Peer, Orderer}
use Rattle.txn_types.specs.Rising.{IsRising}
use Rattle.oxii_defs.specs.NameLists.{AllDiffer}

-- a whole number in a range
abbrev pub HasNumber : ℕ → ℕ → Option Data → ℕ → Type 0
HasNumber low high v n = (v ≡ Some (number (unsigned n))) × (low ≤ n) × (n ≤ high)

-- a string
abbrev pub HasText : Option Data → List ℕ → Type 0
HasText v text = v ≡ Some (string text)

-- a string that is a name
abbrev pub HasName : Option Data → List ℕ → Type 0
HasName v text = HasText v text × IsName text

-- a name is that of the entry with this number
abbrev pub IsNameAt : List (List ℕ) → List ℕ → ℕ → Type 0
IsNameAt names text i = slice_get names i ≡ Some text

-- a name is that of a peer or of an orderer
abbrev pub IsNodeName : List (List ℕ) → List (List ℕ) → List ℕ → Node → Type 0
IsNodeName orderers peers text (Peer p) = IsNameAt peers text p
IsNodeName orderers peers text (Orderer o) = IsNameAt orderers text o

-- the name of an entry
abbrev pub HasReference : {E : Type 0} → (List ℕ → E → Type 0) → Option Data → E → Type 0
HasReference Names v e = (text : List ℕ) × HasName v text × Names text e

-- an object has no keys but these
abbrev pub HasOnly : List (List ℕ) → Members → Type 0
HasOnly keys no_members = Unit {0}
HasOnly keys (member k d ms) = Contains keys k × HasOnly keys ms

-- item by item
abbrev pub EachSays : {X : Type 0} → (Data → X → Type 0) → Items → List X → Type 0
EachSays Says no_items [] = Unit {0}
EachSays Says (item d ds) (x ∷ xs) = Says d x × EachSays Says ds xs
EachSays Says _ _ = ⊥

-- an array of so many items, each of which says one of these
pub record HasList {X : Type 0} (Says : Data → X → Type 0) (low high : ℕ) (v : Option Data) (xs : List X) : Type 0 where
  pub items : Items
  pub is : v ≡ Some (array items)
  pub least : low ≤ items_len items
  pub most : items_len items ≤ high
  pub each : EachSays Says items xs

-- an item that is a name
abbrev pub SaysName : Data → List ℕ → Type 0
SaysName d text = HasName (Some d) text

-- names that differ from each other and from the taken ones
pub record HasNames (taken : List (List ℕ)) (low high : ℕ) (v : Option Data) (names : List (List ℕ)) : Type 0 where
  pub list : HasList SaysName low high v names
  pub differ : AllDiffer (taken ++ names)

-- no two have one rank
abbrev pub RanksDiffer : {E : Type 0} → (E → ℕ) → List E → Type 0
RanksDiffer rank [] = Unit {0}
RanksDiffer rank (e ∷ rest) = All (λ other. rank other ≢ rank e) rest × RanksDiffer rank rest

-- an item that is the name of an entry
abbrev pub SaysEntry : {E : Type 0} → (List ℕ → E → Type 0) → Data → E → Type 0
SaysEntry Names d e = HasReference Names (Some d) e

-- a set: the entries that the items name, which differ, in rising order
pub record HasSet {E : Type 0} (rank : E → ℕ) (Names : List ℕ → E → Type 0) (low high : ℕ) (v : Option Data) (entries : List E) : Type 0 where
  pub named : List E
  pub list : HasList (SaysEntry Names) low high v named
  pub differ : RanksDiffer rank named
  pub rising : IsRising (map rank entries)
  pub same : (e : E) → Contains entries e ↔ Contains named e

-- 1 to 16 of the peers, and at most as many to agree
pub record HasAgents (peers : List (List ℕ)) (ms : Members) (agents : List ℕ) (tau : ℕ) : Type 0 where
  pub agents_are : HasSet (λ p. p) (IsNameAt peers) 1 16 (get_member (codes "agents") ms) agents
  pub tau_is : HasNumber 1 (length agents) (get_member (codes "tau") ms) tau
