-- What a step of the cutting keeps.
use Rattle.std.specs.Prelude.{Bool, false, List, ◌∷◌}
use Rattle.txn_types.specs.declared.stream.CutLimits.{CutLimits}
use Rattle.txn_types.specs.declared.stream.Item.{Item}
use Rattle.txn_types.specs.declared.stream.Piece.{Piece}
use Rattle.oxii_defs.specs.Table.{Table}
use Rattle.node_defs.specs.Cutting.{AdmittedItem}
use Rattle.block_cutter.specs.Standing.{Stands, StandsBefore}
use Rattle.block_cutter.specs.declared.blocks.BlockCutter.{BlockCutter}

-- what was before an admitted piece is after it
abbrev pub TakesPiece : Table → CutLimits → Piece → BlockCutter → BlockCutter → Type 0
TakesPiece table limits piece old new =
    (all : List AdmittedItem) (marked : Bool) (left : List AdmittedItem)
    → Stands table limits all false (record { piece = piece; marked = marked } ∷ left) old.bodies old.current.txns old.current.bytes
    → Stands table limits all marked left new.bodies new.current.txns new.current.bytes

-- what was before an item is after it
abbrev pub TakesItem : Table → CutLimits → Item → BlockCutter → BlockCutter → Type 0
TakesItem table limits item old new =
    (all : List AdmittedItem) (left : List Item)
    → StandsBefore table limits all (item ∷ left) old.bodies old.current.txns old.current.bytes
    → StandsBefore table limits all left new.bodies new.current.txns new.current.bytes
