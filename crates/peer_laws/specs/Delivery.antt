-- What a peer keeps is what its log gives, the latest entry first.
use Rattle.std.specs.Prelude.{ℕ, suc, ◌≡◌, ◌≤◌, ◌<◌, ◌==◌, false, List, ◌∷◌, ◌++◌, filter, length, Option, Some, None}
use Rattle.std.specs.List.{list_any}
use Rattle.txn_types.specs.declared.txn.Outcome.{Outcome}
use Rattle.txn_types.specs.declared.block.Block.{Block}
use Rattle.txn_types.specs.declared.message.Commit.{Commit}
use Rattle.oxii_defs.specs.Lines.{Entry}
use Rattle.node_defs.specs.Rules.{Rules}
use Rattle.node_defs.specs.Log.{Letter, Log, votes_in}
use Rattle.node_defs.specs.Ledger.{Halt, completed, ledger, is_split, split, heard, accepted_at}
use Rattle.node_defs.specs.Sent.{sent, sent_upto}
use Rattle.peer_laws.specs.Turns.{Casts, InWork, said, votes_behind, open_at}

-- each other peer has voted on a position where the log has a vote of it
abbrev pub SendersAre : Rules → ℕ → Casts → Log → Type 0
SendersAre rules me cast K = (n t p : ℕ) → (p == me) ≡ false → list_any (λ v. v.0 == p) (cast n t) ≡ list_any (λ v. v.0 == p) (said rules me n t K)

-- the votes of p among these, the latest first
abbrev pub votes_of : ℕ → List (ℕ × Outcome) → List (ℕ × Outcome)
votes_of p votes = filter (λ v. v.0 == p) votes

-- the votes of each other peer on a position are those that the log has of it, and this peer has one there at most
pub record VotesAreSaid (rules : Rules) (me : ℕ) (cast : Casts) (K : Log) : Type 0 where
  pub others : (n t p : ℕ) → (p == me) ≡ false → votes_of p (cast n t) ≡ votes_of p (said rules me n t K)
  pub own : (n t : ℕ) → length (votes_of me (cast n t)) ≤ 1

-- a peer that isn't halted, with its parts
pub record Running (rules : Rules) (me : ℕ) (K : Log) (cast : Casts) (done : List Entry) (work : Option InWork) : Type 0 where
  pub senders : SendersAre rules me cast K
  pub said_are : VotesAreSaid rules me cast K
  pub votes : (j t : ℕ) → length (ledger rules me K) ≤ j → cast (suc j) t ≡ votes_behind rules me j t K
  pub blocks : done ≡ ledger rules me K
  pub opened : work ≡ open_at rules me (length (ledger rules me K)) K

-- within one delivery: m blocks are done with, and nothing of the block after them has been done for e
pub record Midway (rules : Rules) (me m : ℕ) (e : Letter) (L : Log) (cast : Casts) (done : List Entry) (work : Option InWork) (commits_made : List Commit) : Type 0 where
  pub senders : SendersAre rules me cast (e ∷ L)
  pub said_are : VotesAreSaid rules me cast (e ∷ L)
  pub votes : (j t : ℕ) → m ≤ j → cast (suc j) t ≡ votes_in rules me (suc j) t e ++ votes_behind rules me j t L
  pub blocks : done ≡ completed rules me m (e ∷ L)
  pub full : length (completed rules me m (e ∷ L)) ≡ m
  pub opened : work ≡ open_at rules me m L
  pub above : (j : ℕ) → m < j → accepted_at rules me j L ≡ None
  pub commits : commits_made ≡ sent_upto rules me m e L

-- within one delivery: all of the block in work has been done for e but to judge it
pub record Worked (rules : Rules) (me m : ℕ) (e : Letter) (L : Log) (b : Block) (cast : Casts) (done : List Entry) (work : InWork) (commits_made : List Commit) : Type 0 where
  pub accepted : accepted_at rules me m (e ∷ L) ≡ Some b
  pub senders : SendersAre rules me cast (e ∷ L)
  pub said_are : VotesAreSaid rules me cast (e ∷ L)
  pub here : (t : ℕ) → cast (suc m) t ≡ votes_behind rules me m t (e ∷ L)
  pub votes : (j t : ℕ) → m < j → cast (suc j) t ≡ votes_in rules me (suc j) t e ++ votes_behind rules me j t L
  pub blocks : done ≡ completed rules me m (e ∷ L)
  pub full : length (completed rules me m (e ∷ L)) ≡ m
  pub opened : Some work ≡ open_at rules me m (e ∷ L)
  pub above : (j : ℕ) → m < j → accepted_at rules me j L ≡ None
  pub commits : commits_made ≡ sent_upto rules me (suc m) e L

-- what a delivery leaves after
pub record Left (rules : Rules) (me : ℕ) (e : Letter) (L : Log) (done : List Entry) (commits_made : List Commit) (halt : Option Halt) : Type 0 where
  pub blocks : done ≡ ledger rules me (e ∷ L)
  pub commits : is_split rules me (heard rules me L) ≡ false → commits_made ≡ sent rules me (e ∷ L)
  pub halted : halt ≡ split rules me (e ∷ L)
