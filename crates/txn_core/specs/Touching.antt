-- Positions that are marked at the records which they touch.
use Rattle.std.specs.Prelude.{◌≡◌, ◌<◌, ◌+◌, ◌*◌, ◌/◌, ◌%◌, ℕ, true, List, length}
use Rattle.std.specs.List.{All, slice_index_or}
use Rattle.std.specs.Int.{bit_at}
use Rattle.txn_types.specs.declared.txn.Kind.{Kind}
use Rattle.txn_types.specs.declared.txn.Txn.{Txn}
use Rattle.oxii_defs.specs.Dependency.{depends}

-- position p is in the set of the record's bucket, which has four words
abbrev pub IsMarked : List ℕ → ℕ → ℕ → Type 0
IsMarked words p r = bit_at (slice_index_or words (r % 256 * 4 + p / 64) 0) (p % 64) ≡ 1

-- what was marked still is
abbrev pub Grows : List ℕ → List ℕ → Type 0
Grows old new = (k b : ℕ) → bit_at (slice_index_or old k 0) b ≡ 1 → bit_at (slice_index_or new k 0) b ≡ 1

-- all has each bit of this word of these records' buckets
abbrev pub Unites : List ℕ → List ℕ → ℕ → ℕ → Type 0
Unites words records word all = All (λ r. (b : ℕ) → bit_at (slice_index_or words (r % 256 * 4 + word) 0) b ≡ 1 → bit_at all b ≡ 1) records

-- the position is marked at each record that its transaction reads, and at each that it writes
pub record IsEntered (readers writers : List ℕ) (p : ℕ) (txn : Txn) : Type 0 where
  pub reads : All (IsMarked readers p) txn.reads
  pub writes : All (IsMarked writers p) txn.writes

-- each position below the count is entered
pub record AreEntered (readers writers : List ℕ) (count : ℕ) (txns : List Txn) : Type 0 where
  pub at : (p : ℕ) (d : Txn) → p < count → IsEntered readers writers p (slice_index_or txns p d)

-- each of the earlier ones that a transaction depends on is marked
pub record AreNamed (kind : Kind) (later : Txn) (earlier : List Txn) (words : List ℕ) : Type 0 where
  pub at : (p : ℕ) (d : Txn) → p < length earlier → depends kind (slice_index_or earlier p d) later ≡ true → bit_at (slice_index_or words (p / 64) 0) (p % 64) ≡ 1

-- the first transactions of a block, so many of them
pub record Part : Type 0 where
  pub txns : List Txn
  pub count : ℕ
