-- A log: what was delivered to a peer, with its senders.
-- Every list that grows with the log is the latest first: a log, the ballots, the ledger.
-- So the log before its last entry is the tail, and each prefix of the log is a tail of it.
use Rattle.std.specs.Prelude.{ℕ, ◌==◌, Bool, ◌&&◌, not, if◌then◌else◌, List, [], ◌∷◌, map, reverse, length, Option, Some, None, filter_map, nat_lt}
use Rattle.txn_types.specs.declared.txn.Outcome.{Outcome}
use Rattle.txn_types.specs.declared.block.Block.{Block}
use Rattle.txn_types.specs.declared.message.Node.{Node}
use Rattle.txn_types.specs.declared.message.Node.TheVariants.{Peer, Orderer}
use Rattle.txn_types.specs.declared.message.Vote.{Vote}
use Rattle.txn_types.specs.declared.message.NewBlock.{NewBlock}
use Rattle.txn_types.specs.declared.message.Message.{Message}
use Rattle.txn_types.specs.declared.message.Message.TheVariants as message
use Rattle.oxii_defs.specs.Dependency.{graph_of}
use Rattle.node_defs.specs.Same.{same_list, same_number}
use Rattle.node_defs.specs.Counting.{first_of_each}
use Rattle.node_defs.specs.Rules.{Rules}

-- an entry of a log: a message and its sender
pub record Letter : Type 0 where
  pub from : Node
  pub message : Message

-- the latest entry is first
abbrev pub Log : Type 0
Log = List Letter

-- NEWBLOCKS

-- good: the sender is an orderer of the table, and the lists are the graph of the block
abbrev pub is_good : Rules → ℕ → ℕ → NewBlock → Bool
is_good rules n o m =
    nat_lt o (length rules.table.orderers) && (m.block.number == n)
    && same_list (same_list same_number) m.preds (graph_of rules.table.kind m.block.txns)

-- the orderer and the block of a good NEWBLOCK for n
abbrev pub newblock_from : Rules → ℕ → Node → Message → Option (ℕ × Block)
newblock_from rules n (Orderer o) (message.NewBlock m) = if is_good rules n o m then Some (o, m.block) else None
newblock_from rules n _ _ = None

-- the same of an entry
abbrev pub newblock_in : Rules → ℕ → Letter → Option (ℕ × Block)
newblock_in rules n e = newblock_from rules n e.from e.message

-- the first good NEWBLOCK of each orderer for n
abbrev pub first_newblocks : Rules → ℕ → Log → List (ℕ × Block)
first_newblocks rules n L = first_of_each (filter_map (newblock_in rules n) L)

-- VOTES

-- the outcomes that votes give position t, in their order
abbrev pub outcomes_on : ℕ → List Vote → List Outcome
outcomes_on t [] = []
outcomes_on t (v ∷ rest) = if v.t == t then v.outcome ∷ outcomes_on t rest else outcomes_on t rest

-- a peer of the table, and not this one
abbrev pub is_other : Rules → ℕ → ℕ → Bool
is_other rules me p = nat_lt p (length rules.table.peers) && not (p == me)

-- what a sender votes with a message on position t of block n: a COMMIT of another peer alone is heard
abbrev pub votes_from : Rules → ℕ → ℕ → ℕ → Node → Message → List (ℕ × Outcome)
votes_from rules me n t (Peer p) (message.Commit c) =
    if is_other rules me p && (c.n == n) then map (λ o. (p, o)) (reverse (outcomes_on t c.votes)) else []
votes_from rules me n t _ _ = []

-- what an entry votes on position t of block n: its sender with each outcome, the latest first
abbrev pub votes_in : Rules → ℕ → ℕ → ℕ → Letter → List (ℕ × Outcome)
votes_in rules me n t e = votes_from rules me n t e.from e.message
