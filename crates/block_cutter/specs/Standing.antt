-- What the blocks that were cut so far stand for, and the one that is open.
use Rattle.std.specs.Prelude.{◌≡◌, ◌≤◌, ◌<◌, ℕ, Bool, List, [], ◌∷◌, ◌++◌, length, map, None}
use Rattle.std.specs.List.{All, AllByRecursion, flat_map}
use Rattle.txn_types.specs.declared.txn.Txn.{Txn}
use Rattle.txn_types.specs.declared.block.Body.{Body}
use Rattle.txn_types.specs.declared.stream.CutLimits.{CutLimits}
use Rattle.txn_types.specs.declared.stream.Item.{Item}
use Rattle.oxii_defs.specs.Table.{Table}
use Rattle.oxii_defs.specs.Lawful.{IsLawfulTxn, IsLawfulBody}
use Rattle.node_defs.specs.Cutting.{AdmittedItem, admitted, mark_comes, txns_in, bytes_in, IsCall, HasNoMark, IsPart, EndRightly, carried_body, last_marked}

-- the block of these transactions, where there are any
abbrev pub block_of : List Txn → List Body
block_of [] = []
block_of (t ∷ rest) = record { txns = t ∷ rest; config = None } ∷ []

-- the blocks before the open one
pub record AreClosed (table : Table) (limits : CutLimits) (bodies : List Body) (closed : List (List AdmittedItem)) : Type 0 where
  pub parts : AllByRecursion (IsPart table limits) closed
  pub carried : bodies ≡ map carried_body closed
  pub lawful : All (λ b. IsLawfulBody table b.txns b.config) bodies

-- the open block: its transactions, and their bytes together
pub record IsOpen (table : Table) (limits : CutLimits) (txns : List Txn) (bytes : ℕ) (current : List AdmittedItem) : Type 0 where
  pub calls : AllByRecursion IsCall current
  pub carried : txns ≡ txns_in current
  pub lawful : All (IsLawfulTxn table) txns
  pub few : length current ≤ limits.txns
  pub counted : bytes ≡ bytes_in table current
  pub small : bytes ≤ limits.bytes
  pub unmarked : HasNoMark current

-- blocks so far of a cutting of all admitted items: `closed` end rightly however `current` goes on, and a mark is after `current` where one comes next
pub record Stands (table : Table) (limits : CutLimits) (all : List AdmittedItem) (marked : Bool) (left : List AdmittedItem) (bodies : List Body) (txns : List Txn) (bytes : ℕ) : Type 0 where
  pub closed : List (List AdmittedItem)
  pub current : List AdmittedItem
  pub whole : flat_map (λ list. list) closed ++ (current ++ left) ≡ all
  pub are_closed : AreClosed table limits bodies closed
  pub is_open : IsOpen table limits txns bytes current
  pub ends : (more : List AdmittedItem) → EndRightly table limits (closed ++ (current ++ more) ∷ [])
  pub last : 0 < length current → last_marked current ≡ marked

-- the same before the items that are left of a stream
abbrev pub StandsBefore : Table → CutLimits → List AdmittedItem → List Item → List Body → List Txn → ℕ → Type 0
StandsBefore table limits all items bodies txns bytes = Stands table limits all (mark_comes table items) (admitted table items) bodies txns bytes
