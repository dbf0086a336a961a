-- What contracts see of a dependency graph.
use Rattle.std.specs.Prelude.{◌≡◌, ◌<◌, ◌≤◌, ℕ, List, [], length}
use Rattle.std.specs.List.{All, slice_index_or}
use Rattle.txn_types.specs.Rising.{IsRising}
use Rattle.txn_types.specs.declared.txn.Kind.{Kind}
use Rattle.txn_types.specs.declared.txn.Txn.{Txn}
use Rattle.oxii_defs.specs.Dependency.{graph_of}

-- its kind, and for each position the positions that it depends on
pub record Shape : Type 0 where
  pub kind : Kind
  pub preds : List (List ℕ)

-- lists of predecessors: for at most 256 positions, each rising and of earlier positions only
pub record ArePreds (lists : List (List ℕ)) : Type 0 where
  pub count : length lists ≤ 256
  pub rising : All IsRising lists
  pub earlier : (t : ℕ) → t < length lists → All (λ p. p < t) (slice_index_or lists t [])

-- the graph is that of these transactions, for its kind
abbrev pub IsGraphOf : List Txn → Shape → Type 0
IsGraphOf txns graph = graph.preds ≡ graph_of graph.kind txns
