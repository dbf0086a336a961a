-- Worlds whose logs come from their pools, and how many COMMITs their peers sent.
use Rattle.std.specs.Prelude.{ℕ, suc, ◌+◌, ◌≡◌, List, [], ◌∷◌, length, ◌⊎◌}
use Rattle.std.specs.List.{AllByRecursion}
use Rattle.node_defs.specs.Log.{Letter, Log}
use Rattle.node_defs.specs.Rules.{Rules}
use Rattle.node_defs.specs.Sent.{sent}
use Rattle.node_defs.specs.World.{Setting, World, peers_of}

-- the list has this item
abbrev pub Has : {A : Type 0} → A → List A → Type 0
Has x [] = ⊥
Has x (y ∷ ys) = (x ≡ y) ⊎ Has x ys

-- each entry of the log is in the pool
abbrev pub IsOf : List Letter → Log → Type 0
IsOf pool L = (x : Letter) → Has x L → Has x pool

-- each log's entries are in the pool, and there is a log for each peer
pub record IsFed (s : Setting) (w : World) : Type 0 where
  pub logs : AllByRecursion (IsOf w.pool) w.logs
  pub count : length w.logs ≡ peers_of s

-- how many COMMITs a peer sent in all
abbrev pub total : Rules → ℕ → Log → ℕ
total rules me [] = 0
total rules me (e ∷ L) = length (sent rules me (e ∷ L)) + total rules me L

-- how many COMMITs the peers from number i on sent in all
abbrev pub totals : Rules → ℕ → List Log → ℕ
totals rules i [] = 0
totals rules i (L ∷ logs) = total rules i L + totals rules (suc i) logs
