-- Dependency, and the graph of a block.
use Rattle.std.specs.Prelude.{ℕ, suc, Bool, false, ◌||◌, List, [], ◌∷◌, ◌++◌, if◌then◌else◌}
use Rattle.oxii_defs.specs.State.{contains}
use Rattle.txn_types.specs.declared.txn.Txn.{Txn}
use Rattle.txn_types.specs.declared.txn.Kind.{Kind}
use Rattle.txn_types.specs.declared.txn.Kind.TheVariants.{Full, Raw}

-- the lists have a record in common
abbrev pub meets : List ℕ → List ℕ → Bool
meets [] ys = false
meets (x ∷ rest) ys = contains ys x || meets rest ys

-- a later transaction depends on an earlier one of its block
abbrev pub depends : Kind → Txn → Txn → Bool
depends Full earlier later = meets earlier.reads later.writes || meets earlier.writes later.reads || meets earlier.writes later.writes
depends Raw earlier later = meets earlier.writes later.reads

-- the positions, counted from i, of those that a transaction depends on
abbrev pub preds_from : Kind → Txn → ℕ → List Txn → List ℕ
preds_from kind t i [] = []
preds_from kind t i (earlier ∷ rest) = if depends kind earlier t then i ∷ preds_from kind t (suc i) rest else preds_from kind t (suc i) rest

abbrev pub graph_after : Kind → List Txn → List Txn → List (List ℕ)
graph_after kind before [] = []
graph_after kind before (t ∷ rest) = preds_from kind t 0 before ∷ graph_after kind (before ++ t ∷ []) rest

-- the graph of a block: the predecessors of each position
abbrev pub graph_of : Kind → List Txn → List (List ℕ)
graph_of kind txns = graph_after kind [] txns
