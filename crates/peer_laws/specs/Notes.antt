-- The note of a message.
use Rattle.std.specs.Prelude.{ℕ, ◌==◌, Bool, ◌&&◌, not, if◌then◌else◌, List, ◌∷◌, length, nat_lt}
use Rattle.std.specs.List.{list_any}
use Rattle.txn_types.specs.declared.txn.Outcome.{Outcome}
use Rattle.txn_types.specs.declared.message.Node.{Node}
use Rattle.txn_types.specs.declared.message.Node.TheVariants.{Peer, Orderer}
use Rattle.txn_types.specs.declared.message.Vote.{Vote}
use Rattle.txn_types.specs.declared.message.Commit.{Commit}
use Rattle.txn_types.specs.declared.message.NewBlock.{NewBlock}
use Rattle.txn_types.specs.declared.message.Message.{Message}
use Rattle.txn_types.specs.declared.message.Message.TheVariants as message
use Rattle.oxii_defs.specs.Dependency.{graph_of}
use Rattle.node_defs.specs.Same.{same_list, same_number}
use Rattle.node_defs.specs.Rules.{Rules}
use Rattle.node_defs.specs.Log.{Letter, Log, first_newblocks}
use Rattle.node_defs.specs.Ledger.{heard, is_split}
use Rattle.peer_laws.specs.declared.note.Note.{Note}
use Rattle.peer_laws.specs.declared.note.Note.TheVariants.{Counted, Repeat, Stranger, WrongGraph, Halted}
use Rattle.peer_laws.specs.Turns.{Casts, said}

-- of a NEWBLOCK of orderer o of the table: its lists are not its block's graph, o has a good one for its number, or it counts
abbrev pub newblock_note : Rules → ℕ → NewBlock → Log → Note
newblock_note rules o m L =
    if same_list (same_list same_number) m.preds (graph_of rules.table.kind m.block.txns)
    then (if list_any (λ x. x.0 == o) (first_newblocks rules m.block.number L) then Repeat else Counted)
    else WrongGraph

-- p has a vote among these
abbrev pub has_vote : ℕ → List (ℕ × Outcome) → Bool
has_vote p votes = list_any (λ v. v.0 == p) votes

-- one of these votes of p on block n is the first on its position
abbrev pub any_first : Casts → ℕ → ℕ → List Vote → Bool
any_first cast p n votes = list_any (λ v. not (has_vote p (cast n v.t))) votes

-- of a COMMIT of peer p of the table: it counts where one of its votes is the first on its position, and p isn't this peer
abbrev pub commit_note : Rules → ℕ → ℕ → Commit → Log → Note
commit_note rules me p c L =
    if not (p == me) && any_first (λ n t. said rules me n t L) p c.n c.votes then Counted else Repeat

-- of a message to a peer that isn't halted: a NEWBLOCK of no orderer of the table and a COMMIT of no peer of the table are a stranger's
abbrev pub note_from : Rules → ℕ → Log → Node → Message → Note
note_from rules me L (Orderer o) (message.NewBlock m) = if nat_lt o (length rules.table.orderers) then newblock_note rules o m L else Stranger
note_from rules me L (Peer p) (message.Commit c) = if nat_lt p (length rules.table.peers) then commit_note rules me p c L else Stranger
note_from rules me L _ _ = Stranger

-- the note of the latest entry: that the peer is halted comes first
abbrev pub note_of : Rules → ℕ → Letter → Log → Note
note_of rules me e L = if is_split rules me (heard rules me (e ∷ L)) then Halted else note_from rules me L e.from e.message
