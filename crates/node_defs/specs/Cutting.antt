-- Agreed blocks: the one cutting of the admitted items into lists.
use Rattle.std.specs.Prelude.{◌≡◌, ◌≤◌, ◌<◌, ◌⊎◌, ℕ, suc, Bool, true, false, ◌&&◌, not, List, [], ◌∷◌, ◌++◌, length, map, Option, Some, None, is_some}
use Rattle.std.specs.List.{AllByRecursion, flat_map}
use Rattle.txn_types.specs.declared.txn.Txn.{Txn}
use Rattle.txn_types.specs.declared.block.Config.{Config}
use Rattle.txn_types.specs.declared.block.Body.{Body}
use Rattle.txn_types.specs.declared.stream.CutLimits.{CutLimits}
use Rattle.txn_types.specs.declared.stream.Rejected.{Rejected}
use Rattle.txn_types.specs.declared.stream.Piece.{Piece}
use Rattle.txn_types.specs.declared.stream.Piece.TheVariants as piece
use Rattle.txn_types.specs.declared.stream.Item.{Item}
use Rattle.txn_types.specs.declared.stream.Item.TheVariants as item
use Rattle.oxii_defs.specs.Table.{Table}
use Rattle.oxii_defs.specs.BlockBytes.{txn_bytes}
use Rattle.node_defs.specs.Admission.{piece_of, reject_of}

-- an admitted item, and whether a mark is in the stream between it and the next admitted one
pub record AdmittedItem : Type 0 where
  pub piece : Piece
  pub marked : Bool

-- a mark is before the next admitted item
abbrev pub mark_comes : Table → List Item → Bool
mark_comes table [] = false
mark_comes table (item.Mark ∷ rest) = true
mark_comes table (x ∷ rest) = not (is_some (piece_of table x)) && mark_comes table rest

-- one more in front, where the item is admitted
abbrev pub admitted_with : Option Piece → Bool → List AdmittedItem → List AdmittedItem
admitted_with None marked rest = rest
admitted_with (Some p) marked rest = record { piece = p; marked = marked } ∷ rest

-- the configurations and the requests that no test rejects, in order
abbrev pub admitted : Table → List Item → List AdmittedItem
admitted table [] = []
admitted table (x ∷ rest) = admitted_with (piece_of table x) (mark_comes table rest) (admitted table rest)

-- the rejected requests, with their positions in the stream, counted from i
abbrev pub rejected_from : Table → ℕ → List Item → List Rejected
rejected_from table i [] = []
rejected_from table i (x ∷ rest) = reject_of table i x ++ rejected_from table (suc i) rest

-- WHAT A LIST OF ADMITTED ITEMS HOLDS

-- the transaction that a piece carries, if it is one
abbrev pub txns_in_piece : Piece → List Txn
txns_in_piece (piece.Call t) = t ∷ []
txns_in_piece (piece.Config c) = []

-- the transactions of a list, in order
abbrev pub txns_in : List AdmittedItem → List Txn
txns_in xs = flat_map (λ x. txns_in_piece x.piece) xs

-- the bytes of its transactions together
abbrev pub bytes_in : Table → List AdmittedItem → ℕ
bytes_in table xs = length (flat_map (txn_bytes table) (txns_in xs))

-- it is a transaction
abbrev pub IsCall : AdmittedItem → Type 0
IsCall x = (t : Txn) × (x.piece ≡ piece.Call t)

-- a configuration is alone in its list
abbrev pub IsAlone : List AdmittedItem → Type 0
IsAlone (x ∷ y ∷ rest) = AllByRecursion IsCall (x ∷ y ∷ rest)
IsAlone _ = Unit {0}

-- no mark is between two of the list
abbrev pub HasNoMark : List AdmittedItem → Type 0
HasNoMark (x ∷ y ∷ rest) = (x.marked ≡ false) × HasNoMark (y ∷ rest)
HasNoMark _ = Unit {0}

-- a mark is after its last
abbrev pub last_marked : List AdmittedItem → Bool
last_marked [] = false
last_marked (x ∷ []) = x.marked
last_marked (x ∷ y ∷ rest) = last_marked (y ∷ rest)

-- it begins with a configuration
abbrev pub BeginsWithConfig : List AdmittedItem → Type 0
BeginsWithConfig [] = ⊥
BeginsWithConfig (x ∷ rest) = (c : Config) × (x.piece ≡ piece.Config c)

-- its first alone
abbrev pub front : List AdmittedItem → List AdmittedItem
front [] = []
front (x ∷ rest) = x ∷ []

-- why a list ends where another follows it: it is a configuration, it is full by count,
-- it is full by bytes, a mark follows it, or a configuration does
abbrev pub EndsBefore : Table → CutLimits → List AdmittedItem → List AdmittedItem → Type 0
EndsBefore table limits list next =
    BeginsWithConfig list
    ⊎ ((length list ≡ limits.txns)
    ⊎ ((limits.bytes < bytes_in table (list ++ front next))
    ⊎ ((last_marked list ≡ true)
    ⊎ BeginsWithConfig next)))

-- each list but the last one ends for a reason
abbrev pub EndRightly : Table → CutLimits → List (List AdmittedItem) → Type 0
EndRightly table limits (list ∷ next ∷ rest) = EndsBefore table limits list next × EndRightly table limits (next ∷ rest)
EndRightly table limits _ = Unit {0}

-- one of the lists of a cutting
pub record IsPart (table : Table) (limits : CutLimits) (list : List AdmittedItem) : Type 0 where
  pub filled : 0 < length list
  pub alone : IsAlone list
  pub few : length (txns_in list) ≤ limits.txns
  pub small : bytes_in table list ≤ limits.bytes
  pub unmarked : HasNoMark list

-- a cutting of the admitted items into lists
pub record IsCutting (table : Table) (limits : CutLimits) (items : List AdmittedItem) (lists : List (List AdmittedItem)) : Type 0 where
  pub whole : flat_map (λ list. list) lists ≡ items
  pub parts : AllByRecursion (IsPart table limits) lists
  pub ends : EndRightly table limits lists

-- BODIES

-- the configuration that a list begins with, if it does
abbrev pub config_in : List AdmittedItem → Option Config
config_in [] = None
config_in (x ∷ rest) = elim x.piece [ piece.Call t ↦ None | piece.Config c ↦ Some c ]

-- what a block of this list carries
abbrev pub carried_body : List AdmittedItem → Body
carried_body list = record { txns = txns_in list; config = config_in list }

-- the bodies of the agreed blocks
abbrev pub AreAgreed : Table → CutLimits → List Item → List Body → Type 0
AreAgreed table limits items bodies = (lists : List (List AdmittedItem)) × IsCutting table limits (admitted table items) lists × (bodies ≡ map carried_body lists)
