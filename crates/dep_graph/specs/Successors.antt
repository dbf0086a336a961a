-- The positions that depend on a position.
use Rattle.std.specs.Prelude.{ℕ, suc, List, [], ◌∷◌, if◌then◌else◌}
use Rattle.oxii_defs.specs.State.{contains}
use Rattle.txn_core.specs.Graphs.{Shape}

-- the positions, counted from j, whose predecessors have t
abbrev pub successors_from : ℕ → ℕ → List (List ℕ) → List ℕ
successors_from t j [] = []
successors_from t j (preds ∷ rest) = if contains preds t then j ∷ successors_from t (suc j) rest else successors_from t (suc j) rest

-- the positions that depend on t, rising
abbrev pub successors_of : Shape → ℕ → List ℕ
successors_of graph t = successors_from t 0 graph.preds
