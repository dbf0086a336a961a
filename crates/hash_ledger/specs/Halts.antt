-- What a split stands for, and when it is one of a table.
use Rattle.std.specs.Prelude.{◌≡◌, ℕ, length, Option, None, Some}
use Rattle.std.specs.Borrow.{Bor}
use Rattle.std.specs.List.{AllByRecursion}
use Rattle.txn_types.specs.declared.message.Split.{Split}
use Rattle.txn_types.specs.declared.txn.Outcome.{Outcome}
use Rattle.txn_types.specs.declared.txn.Outcome.TheVariants.{Commit, Abort}
use Rattle.oxii_defs.specs.Table.{Table}
use Rattle.oxii_defs.specs.Lawful.{IsRecord}
use Rattle.node_defs.specs.Ledger.{Halt}

-- what a split says
abbrev pub halt_of : Split → Halt
halt_of s = record { n = s.n; t = s.t; writes = s.writes; ran = s.ran; voted = s.voted }

-- the same of a split that may be there
abbrev pub halted_of : Option (Bor Split) → Option Halt
halted_of None = None
halted_of (Some s) = Some (halt_of s.now)

-- a commit has one entry for each of so many records
abbrev pub IsWhole : ℕ → Outcome → Type 0
IsWhole count (Commit entries) = length entries ≡ count
IsWhole count (Abort reason) = Unit {0}

-- records of the table, and both outcomes are theirs
pub record IsLawfulSplit (table : Table) (s : Split) : Type 0 where
  pub records : AllByRecursion (IsRecord table) s.writes
  pub ran : IsWhole (length s.writes) s.ran
  pub voted : IsWhole (length s.writes) s.voted
