-- The first position that wrote each record.
use Rattle.std.specs.Prelude.{◌≡◌, ℕ, if◌then◌else◌, min, List, [], ◌∷◌, Option, Some, None, slice_get}
use Rattle.txn_types.specs.declared.txn.Txn.{Txn}
use Rattle.txn_types.specs.declared.txn.Outcome.{Outcome}
use Rattle.std.specs.Ordering.{eq_by_cmp, nat_cmp}
use Rattle.keyed_lists.specs.Keyed.{list_at}
use Rattle.xov_mode.specs.declared.judging.Verdict.{Verdict}
use Rattle.xov_mode.specs.declared.judging.Verdict.TheVariants.{Valid, Invalid}
use Rattle.xov_mode.specs.Verdicts.{touches, cause}

-- records with the positions that wrote them, the first one in front
abbrev pub Writers : Type 0
Writers = List (ℕ × List ℕ)

abbrev pub writer_of : Writers → ℕ → Option ℕ
writer_of writers r = slice_get (list_at (eq_by_cmp nat_cmp r) writers) 0

-- the one that comes first, of two or of one
abbrev pub earlier : Option ℕ → Option ℕ → Option ℕ
earlier None b = b
earlier (Some u) None = Some u
earlier (Some u) (Some v) = Some (min u v)

-- the first position that wrote one of these records
abbrev pub earliest : Writers → List ℕ → Option ℕ
earliest writers [] = None
earliest writers (r ∷ reads) = earlier (writer_of writers r) (earliest writers reads)

-- the first, or else the second
abbrev pub or_else : Option ℕ → Option ℕ → Option ℕ
or_else (Some u) b = Some u
or_else None b = b

-- the position, where its transaction is valid and touches these records
abbrev pub touching : ℕ → Txn → Outcome → Verdict → List ℕ → Option ℕ
touching place t o Valid reads = if touches t o reads then Some place else None
touching place t o (Invalid by) reads = None

-- at each record is the first valid position that wrote it
abbrev pub AreWriters : Writers → List Txn → List Outcome → List Verdict → Type 0
AreWriters writers txns outcomes verdicts = (r : ℕ) → writer_of writers r ≡ cause 0 txns outcomes verdicts (r ∷ [])
