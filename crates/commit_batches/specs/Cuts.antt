-- A list of steps of a holder, in order: what it hands out, and what it leaves.
use Rattle.std.specs.Prelude.{◌≡◌, Bool, true, false, List, [], ◌∷◌, ◌++◌}
use Rattle.std.specs.List.{flat_map, list_any, cons_option}
use Rattle.txn_types.specs.declared.message.Vote.{Vote}
use Rattle.txn_types.specs.declared.message.Commit.{Commit}
use Rattle.commit_batches.specs.Held.{Step, Hold, Cut, handed_at, held_behind}

-- the COMMITs that are handed out
abbrev pub handed : Commit → List Step → List Commit
handed held [] = []
handed held (s ∷ rest) = cons_option (handed_at held s) (handed (held_behind held s) rest)

-- what is held at the end
abbrev pub left : Commit → List Step → Commit
left held [] = held
left held (s ∷ rest) = left (held_behind held s) rest

-- the votes that a step adds
abbrev pub added_at : Step → List Vote
added_at (Hold n vote follows) = vote ∷ []
added_at Cut = []

-- the votes that are added
abbrev pub added : List Step → List Vote
added steps = flat_map added_at steps

-- a cut is after the step
abbrev pub cuts : Step → Bool
cuts (Hold n vote follows) = follows
cuts Cut = true

-- the COMMITs and what is held are the added votes, and after the last cut is what is held
pub record CutTheVotes : Type 0 where
  pub whole : (held : Commit) (steps : List Step) → flat_map (λ c. c.votes) (handed held steps) ++ (left held steps).votes ≡ held.votes ++ added steps
  pub open_part : (held : Commit) (before : List Step) (s : Step) (after : List Step) → cuts s ≡ true → list_any cuts after ≡ false → (left held (before ++ s ∷ after)).votes ≡ added after
