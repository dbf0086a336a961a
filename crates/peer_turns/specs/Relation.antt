-- A peer against its log.
use Rattle.std.specs.Prelude.{ℕ, suc, ◌==◌, ◌≡◌, Bool, true, false, List, [], ◌∷◌, length, None, IfSome}
use Rattle.std.specs.Option.{option_map}
use Rattle.txn_types.specs.declared.message.Commit.{Commit}
use Rattle.txn_types.specs.declared.message.Message.{Message}
use Rattle.txn_types.specs.declared.message.Node.{Node}
use Rattle.txn_types.specs.declared.message.Node.TheVariants as node
use Rattle.oxii_defs.specs.State.{State, contains}
use Rattle.oxii_defs.specs.Lines as lines
use Rattle.txn_core.specs.MeantTable.{table_of}
use Rattle.txn_core.specs.States as values
use Rattle.node_defs.specs.Rules.{Rules, in_force}
use Rattle.node_defs.specs.Programs.{rules_of}
use Rattle.node_defs.specs.Log.{Letter, Log}
use Rattle.node_defs.specs.Ledger.{ledger_state, ledger, split, is_split, heard}
use Rattle.node_defs.specs.World.{count_from}
use Rattle.evidence_marks.specs.Evidence.{IsEvidence}
use Rattle.newblock_quorum.specs.Newblocks as inbox
use Rattle.vote_book.specs.Puts as casts
use Rattle.vote_book.specs.Puts.{Cast, cast_on}
use Rattle.hash_ledger.specs.Ledgers.{completed_of}
use Rattle.peer_laws.specs.Turns as turns
use Rattle.peer_laws.specs.Runs.{runs, runs_upto}
use Rattle.peer_laws.specs.Notes.{note_from}
use Rattle.peer_laws.specs.declared.note.Note.{Note}
use Rattle.peer_laws.specs.Delivery.{Running, Midway, Left}
use Rattle.peer_parts.specs.Owning.{IsOwn}
use Rattle.peer_parts.specs.InForce.{IsForce}
use Rattle.hash_ledger.specs.Halts.{halt_of}
use Rattle.peer_work.specs.declared.opened.Opened.{Opened}
use Rattle.peer_turns.specs.declared.listing.BlockSpans.{BlockSpans}
use Rattle.peer_turns.specs.Peers.{KeptPeer}
use Rattle.peer_turns.specs.Traces.{AreTraced}

-- the completed blocks, the latest first
abbrev pub done_of : KeptPeer → List lines.Entry
done_of p = completed_of p.ledger

-- the rules of its table
abbrev pub rules_for : KeptPeer → State → Rules
rules_for p genesis = rules_of (table_of p.table) genesis

-- all peers of the table
abbrev pub voters_of : KeptPeer → List ℕ
voters_of p = count_from 0 (length p.table.peers)

-- the block in work as the laws see it
abbrev pub opened_of : Opened → turns.InWork
opened_of o = record { block = o.block; known = o.known; held = o.held.votes }

-- the votes on each position, by what was put
abbrev pub cast_by : KeptPeer → List Cast → turns.Casts
cast_by p puts = λ n t. cast_on (voters_of p) n t puts

-- a peer that isn't halted, with its parts, for what it heard
pub record Parts (p : KeptPeer) (genesis : State) (me : ℕ) (K : Log) : Type 0 where
  pub puts : List Cast
  pub inbox_stands : inbox.InboxStandsFor p.inbox (rules_for p genesis) K
  pub book_stands : casts.BookStandsFor p.book (voters_of p) puts
  pub stands : Running (rules_for p genesis) me K (cast_by p puts) (done_of p) (option_map opened_of p.work)
  pub own_are : IfSome p.work (λ o. IsOwn (in_force (rules_for p genesis) (done_of p)) me o.block.txns o.own)

-- within one delivery, m blocks being done with, where each was run with so many workers
pub record MidwayAt (workers : ℕ) (genesis : State) (me m : ℕ) (e : Letter) (K : Log) (p : KeptPeer) (sent : List Commit) (spans : List BlockSpans) : Type 0 where
  pub me_is : p.me ≡ me
  pub running : p.halted ≡ None
  pub voter : contains (voters_of p) me ≡ true
  pub puts : List Cast
  pub inbox_stands : inbox.InboxStandsFor p.inbox (rules_for p genesis) (e ∷ K)
  pub book_stands : casts.BookStandsFor p.book (voters_of p) puts
  pub mid : Midway (rules_for p genesis) me m e K (cast_by p puts) (done_of p) (option_map opened_of p.work) sent
  pub state_is : values.state_of p.state ≡ ledger_state (rules_for p genesis) (done_of p)
  pub force_is : IsForce (in_force (rules_for p genesis) (done_of p)) p.force
  pub own_are : IfSome p.work (λ o. IsOwn (in_force (rules_for p genesis) (done_of p)) me o.block.txns o.own)
  pub traced : AreTraced p.table.kind workers (runs_upto (rules_for p genesis) me m e K) spans

-- after it
pub record EndedAt (workers : ℕ) (genesis : State) (me : ℕ) (e : Letter) (K : Log) (p : KeptPeer) (sent : List Commit) (spans : List BlockSpans) : Type 0 where
  pub me_is : p.me ≡ me
  pub state_is : values.state_of p.state ≡ ledger_state (rules_for p genesis) (done_of p)
  pub force_is : IsForce (in_force (rules_for p genesis) (done_of p)) p.force
  pub leaves : Left (rules_for p genesis) me e K (done_of p) sent (option_map halt_of p.halted)
  pub evidence : IsEvidence (rules_for p genesis) me (e ∷ K) p.inbox.marks p.book.marks
  pub traced : is_split (rules_for p genesis) me (heard (rules_for p genesis) me K) ≡ false → AreTraced p.table.kind workers (runs (rules_for p genesis) me (e ∷ K)) spans
  pub parts : p.halted ≡ None → Parts p genesis me (e ∷ K)

-- after a turn: midway with one block more, or at the end
abbrev pub Turned : ℕ → State → ℕ → ℕ → Letter → Log → Bool → KeptPeer → List Commit → List BlockSpans → Type 0
Turned workers genesis me m e K true p sent spans = MidwayAt workers genesis me (suc m) e K p sent spans
Turned workers genesis me m e K false p sent spans = EndedAt workers genesis me e K p sent spans

-- what a turn makes of a peer that is midway
abbrev pub TurnsOf : ℕ → Bool → KeptPeer → List Commit → List BlockSpans → KeptPeer → List Commit → List BlockSpans → Type 0
TurnsOf workers more old sent_old spans_old new sent_new spans_new =
    (genesis : State) (me m : ℕ) (e : Letter) (K : Log) → MidwayAt workers genesis me m e K old sent_old spans_old → Turned workers genesis me m e K more new sent_new spans_new

-- the sender is this peer
abbrev pub is_me : ℕ → Node → Bool
is_me me (node.Peer p) = p == me
is_me me (node.Orderer o) = false

-- the entry of a log
abbrev pub letter_from : Node → Message → Letter
letter_from from message = record { from = from; message = message }

-- a peer and the log that it heard
pub record StandsOn (p : KeptPeer) (genesis : State) (K : Log) : Type 0 where
  pub voter : contains (voters_of p) p.me ≡ true
  pub state_is : values.state_of p.state ≡ ledger_state (rules_for p genesis) (done_of p)
  pub blocks : done_of p ≡ ledger (rules_for p genesis) p.me K
  pub force_is : IsForce (in_force (rules_for p genesis) (done_of p)) p.force
  pub halted_is : option_map halt_of p.halted ≡ split (rules_for p genesis) p.me K
  pub evidence : IsEvidence (rules_for p genesis) p.me K p.inbox.marks p.book.marks
  pub parts : p.halted ≡ None → Parts p genesis p.me K

-- a peer stands for its log
abbrev pub StandsFor : KeptPeer → State → Log → Type 0
StandsFor p genesis L = StandsOn p genesis (heard (rules_for p genesis) p.me L)

-- what hearing a message makes of a peer that isn't halted
abbrev pub HearsOf : Letter → KeptPeer → KeptPeer → Type 0
HearsOf e old new = (workers : ℕ) (genesis : State) (K : Log) → old.halted ≡ None → StandsOn old genesis K → MidwayAt workers genesis old.me (length (ledger (rules_for old genesis) old.me K)) e K new [] []

-- what a message to a peer that isn't halted is to it
abbrev pub NotesOf : Node → Message → KeptPeer → Note → Type 0
NotesOf from message old note = (genesis : State) (K : Log) → old.halted ≡ None → StandsOn old genesis K → note ≡ note_from (rules_for old genesis) old.me K from message
