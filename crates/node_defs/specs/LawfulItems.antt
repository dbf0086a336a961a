-- Lawful items of a stream, and lawful limits of blocks.
use Rattle.std.specs.Prelude.{ℕ, List, Option, IfSome, ◌≤◌}
use Rattle.std.specs.List.{All}
use Rattle.txn_types.specs.Values.{IsValue}
use Rattle.txn_types.specs.Rising.{IsRising}
use Rattle.txn_types.specs.declared.txn.Arg.{Arg}
use Rattle.txn_types.specs.declared.txn.Arg.TheVariants as arg
use Rattle.txn_types.specs.declared.stream.Request.{Request}
use Rattle.txn_types.specs.declared.stream.Piece.{Piece}
use Rattle.txn_types.specs.declared.stream.Piece.TheVariants as piece
use Rattle.txn_types.specs.declared.stream.Item.{Item}
use Rattle.txn_types.specs.declared.stream.Item.TheVariants as item
use Rattle.txn_types.specs.declared.stream.CutLimits.{CutLimits}
use Rattle.oxii_defs.specs.Table.{Table}
use Rattle.oxii_defs.specs.Lawful.{IsRecord, IsLawfulTxn, IsLawfulConfig, IsUpTo}

-- an argument is a record of the table, or a value
abbrev pub IsRequestArg : Table → Arg → Type 0
IsRequestArg table (arg.Rec r) = IsRecord table r
IsRequestArg table (arg.Num n) = IsValue n

-- distinct records of the table, in rising order
pub record IsRequestSet (table : Table) (records : List ℕ) : Type 0 where
  pub rising : IsRising records
  pub known : All (IsRecord table) records

-- a request as a document can hold it: its sets and arguments are of the table, and its names are any
pub record IsLawfulRequest (table : Table) (q : Request) : Type 0 where
  pub args : All (IsRequestArg table) q.args
  pub reads : IsRequestSet table q.reads
  pub writes : IsRequestSet table q.writes

-- an item as a document can hold it
abbrev pub IsLawfulItem : Table → Item → Type 0
IsLawfulItem table (item.Ask q) = IsLawfulRequest table q
IsLawfulItem table item.Mark = Unit {0}
IsLawfulItem table (item.Config c) = IsLawfulConfig table c

-- what an admitted item carries: a lawful transaction, or a lawful configuration
abbrev pub IsLawfulPiece : Table → Piece → Type 0
IsLawfulPiece table (piece.Call t) = IsLawfulTxn table t
IsLawfulPiece table (piece.Config c) = IsLawfulConfig table c

-- what the items of a stream carry
abbrev pub AreLawfulPieces : Table → List (Option Piece) → Type 0
AreLawfulPieces table pieces = All (λ p. IfSome p (IsLawfulPiece table)) pieces

-- a block's greatest count of transactions, and of their bytes together, are in their ranges
pub record AreLawfulLimits (limits : CutLimits) : Type 0 where
  pub txns : IsUpTo 256 limits.txns
  pub bytes_from : 2048 ≤ limits.bytes
  pub bytes_to : limits.bytes ≤ 1048576
