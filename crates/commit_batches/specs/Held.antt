-- What a holder hands out, and what it goes on holding. Held votes are seen as the COMMIT that they would be.
use Rattle.std.specs.Prelude.{ℕ, ◌≡◌, ◌<◌, Bool, ◌==◌, if◌then◌else◌, [], ◌∷◌, ◌++◌, length, Option, Some, None}
use Rattle.txn_types.specs.declared.message.Vote.{Vote}
use Rattle.txn_types.specs.declared.message.Commit.{Commit}

-- what is asked of a holder: to hold a vote on block n, with whether a cut follows it, or to cut
pub data Step : Type 0 where
  Hold : ℕ → Vote → Bool → Step
  Cut : Step

-- nothing is held for a block other than n
abbrev pub IsFor : Commit → ℕ → Type 0
IsFor held n = 0 < length held.votes → held.n ≡ n

-- one more vote, after the others
abbrev pub with_vote : Commit → ℕ → Vote → Commit
with_vote held n vote = record { n = n; votes = held.votes ++ vote ∷ [] }

-- no votes any more
abbrev pub emptied : Commit → Commit
emptied held = record { n = held.n; votes = [] }

-- what a step hands out: all that is held, if it cuts and there is any
abbrev pub handed_at : Commit → Step → Option Commit
handed_at held (Hold n vote follows) = if follows then Some (with_vote held n vote) else None
handed_at held Cut = if length held.votes == 0 then None else Some held

-- what is held after a step
abbrev pub held_behind : Commit → Step → Commit
held_behind held (Hold n vote follows) = if follows then emptied (with_vote held n vote) else with_vote held n vote
held_behind held Cut = emptied held
