-- What a run of reads took from a source, where the source says what it has left.
use Rattle.std.specs.Prelude.{ℕ, ◌<◌, ◌≤◌, List, length}
use Rattle.std.specs.Io.KnownBytes.{Consumes, IsAtEnd}
use Rattle.std.specs.declared.option.Option.{Option}

-- these bytes were read, no more than the limit, and nothing is left
pub record ReadWhole (old new : Option (List ℕ)) (limit : ℕ) (bytes : List ℕ) : Type 0 where
  pub taken : Consumes old new bytes
  pub end : IsAtEnd new
  pub short : length bytes ≤ limit

-- more bytes than the limit were read
abbrev pub ReadTooMuch : Option (List ℕ) → Option (List ℕ) → ℕ → Type 0
ReadTooMuch old new limit = (bytes : List ℕ) × Consumes old new bytes × (limit < length bytes)

-- no more bytes than the limit were read
abbrev pub ReadWithin : Option (List ℕ) → Option (List ℕ) → ℕ → Type 0
ReadWithin old new limit = (bytes : List ℕ) × Consumes old new bytes × (length bytes ≤ limit)
