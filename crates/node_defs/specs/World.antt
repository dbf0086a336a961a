-- The world: a pool of messages, an idle count and the logs of the peers, as the fold of the events.
use Rattle.std.specs.Prelude.{ℕ, zero, suc, ◌+◌, ◌≡◌, Bool, true, false, if◌then◌else◌, List, [], ◌∷◌, ◌++◌, map, length, get_or, set, Option, Some, None, slice_get, replicate}
use Rattle.std.specs.List.{list_any}
use Rattle.txn_types.specs.declared.block.Block.{Block}
use Rattle.txn_types.specs.declared.stream.Piece.{Piece}
use Rattle.txn_types.specs.declared.stream.Piece.TheVariants as piece
use Rattle.txn_types.specs.declared.message.Node.{Node}
use Rattle.txn_types.specs.declared.message.Node.TheVariants.{Peer, Orderer}
use Rattle.txn_types.specs.declared.message.Commit.{Commit}
use Rattle.txn_types.specs.declared.message.Message.{Message}
use Rattle.txn_types.specs.declared.message.Message.TheVariants as message
use Rattle.txn_types.specs.declared.event.Event.{Event}
use Rattle.txn_types.specs.declared.event.Event.TheVariants as event
use Rattle.oxii_defs.specs.Dependency.{graph_of}
use Rattle.node_defs.specs.Same.{same_node}
use Rattle.node_defs.specs.Rules.{Rules}
use Rattle.node_defs.specs.Log.{Letter, Log}
use Rattle.node_defs.specs.Sent.{sent}
use Rattle.node_defs.specs.Sayings.{said_block, said_newblock}
use Rattle.node_defs.specs.Ledger.{ledger, heard}

-- what stays as it is: the rules, the chain, for each item of the stream what it carries, and the faulty nodes
pub record Setting : Type 0 where
  pub rules : Rules
  pub chain : List Block
  pub pieces : List (Option Piece)
  pub faulty : List Node

-- the messages sent so far, how many deliveries were idle, and for each peer its log
pub record World : Type 0 where
  pub pool : List Letter
  pub idle : ℕ
  pub logs : List Log

-- the node is named faulty
abbrev pub is_faulty : Setting → Node → Bool
is_faulty s x = list_any (same_node x) s.faulty

-- how many peers there are
abbrev pub peers_of : Setting → ℕ
peers_of s = length s.rules.table.peers

-- how many orderers there are
abbrev pub orderers_of : Setting → ℕ
orderers_of s = length s.rules.table.orderers

-- n numbers from i on
abbrev pub count_from : ℕ → ℕ → List ℕ
count_from i zero = []
count_from i (suc n) = i ∷ count_from (suc i) n

-- THE START

-- an orderer's NEWBLOCK of a block of the chain, with its graph
abbrev pub newblock_of : Setting → Block → ℕ → Letter
newblock_of s b o = record { from = Orderer o; message = message.NewBlock (record { block = b; preds = graph_of s.rules.table.kind b.txns }) }

-- the NEWBLOCK of a block, once of each of these orderers that isn't faulty
abbrev pub newblocks_of : Setting → Block → List ℕ → List Letter
newblocks_of s b [] = []
newblocks_of s b (o ∷ rest) = if is_faulty s (Orderer o) then newblocks_of s b rest else newblock_of s b o ∷ newblocks_of s b rest

-- those of these blocks, by number and then by orderer
abbrev pub first_pool : Setting → List Block → List Letter
first_pool s [] = []
first_pool s (b ∷ rest) = newblocks_of s b (count_from 0 (orderers_of s)) ++ first_pool s rest

-- the pool of the start, nothing idle, and empty logs
abbrev pub start : Setting → World
start s = record { pool = first_pool s s.chain; idle = 0; logs = replicate (peers_of s) [] }

-- DELIVERIES

-- a COMMIT of p as a message of the pool
abbrev pub said_by : ℕ → Commit → Letter
said_by p c = record { from = Peer p; message = message.Commit c }

-- x goes to the log of p, and what p then sends goes to the pool
abbrev pub given_to : Setting → World → ℕ → Letter → World
given_to s w p x =
    let L = x ∷ get_or w.logs p [] in
    record { pool = w.pool ++ map (said_by p) (sent s.rules p L); idle = w.idle; logs = set w.logs p L }

-- one more idle delivery
abbrev pub idled : World → World
idled w = record { pool = w.pool; idle = w.idle + 1; logs = w.logs }

-- message m, counted from 1
abbrev pub message_at : World → ℕ → Option Letter
message_at w zero = None
message_at w (suc m) = slice_get w.pool m

-- a delivery of a message that is there or not: to a faulty peer it is idle too
abbrev pub delivered : Setting → World → ℕ → Option Letter → World
delivered s w p None = idled w
delivered s w p (Some x) = if is_faulty s (Peer p) then idled w else given_to s w p x

-- x goes to each of these peers that isn't faulty, in order
abbrev pub given_each : Setting → Letter → List ℕ → World → World
given_each s x [] w = w
given_each s x (p ∷ rest) w = given_each s x rest (if is_faulty s (Peer p) then w else given_to s w p x)

-- x goes to each peer that isn't faulty, in table order
abbrev pub given_all : Setting → Letter → World → World
given_all s x w = given_each s x (count_from 0 (peers_of s)) w

-- the messages from number m on, each to all peers; none where they do not end within this many turns
abbrev pub all_from : Setting → ℕ → ℕ → World → Option World
all_from s zero m w = elim (message_at w m) [ None ↦ Some w | Some x ↦ None ]
all_from s (suc turns) m w = elim (message_at w m) [ None ↦ Some w | Some x ↦ all_from s turns (suc m) (given_all s x w) ]

-- EVENTS

-- one more message in the pool
abbrev pub says : World → Node → Message → World
says w from m = record { pool = w.pool ++ record { from = from; message = m } ∷ []; idle = w.idle; logs = w.logs }

-- one event, where `all` ends within this many turns
abbrev pub happens : Setting → ℕ → World → Event → Option World
happens s turns w (event.Deliver msg to) = Some (delivered s w to (message_at w msg))
happens s turns w event.All = all_from s turns 1 w
happens s turns w (event.SayBlock from number prev items preds) =
    Some (says w from (said_newblock s.rules.table.kind (said_block (map s.rules.hash s.chain) s.pieces number prev items) preds))
happens s turns w (event.SayCommit from commit) = Some (says w from (message.Commit commit))

-- one event leads from one world to the other
abbrev pub Happens : Setting → World → Event → World → Type 0
Happens s w e u = (turns : ℕ) × (happens s turns w e ≡ Some u)

-- the events lead from one world to the other
abbrev pub LeadTo : Setting → World → List Event → World → Type 0
LeadTo s w [] u = u ≡ w
LeadTo s w (e ∷ rest) u = (v : World) × Happens s w e v × LeadTo s v rest u

-- the world of the events
abbrev pub IsWorld : Setting → List Event → World → Type 0
IsWorld s events w = LeadTo s (start s) events w

-- WHAT EVENTS AND WORLDS HOLD

-- an item that may be named in a block of so many: an admitted request, or a configuration alone
abbrev pub MayBeNamed : ℕ → Option Piece → Type 0
MayBeNamed count None = ⊥
MayBeNamed count (Some (piece.Call t)) = Unit {0}
MayBeNamed count (Some (piece.Config c)) = count ≡ 1

-- it is an `all`
abbrev pub is_all : Event → Bool
is_all event.All = true
is_all _ = false

-- it is a message of a faulty node
abbrev pub is_false : Event → Bool
is_false (event.SayBlock from number prev items preds) = true
is_false (event.SayCommit from commit) = true
is_false _ = false

-- how many items a false block names
abbrev pub items_named : Event → ℕ
items_named (event.SayBlock from number prev items preds) = length items
items_named _ = 0

-- how many votes a false COMMIT has
abbrev pub votes_said : Event → ℕ
votes_said (event.SayCommit from commit) = length commit.votes
votes_said _ = 0

-- the log of a peer
abbrev pub log_of : World → ℕ → Log
log_of w p = get_or w.logs p []

-- how many blocks a peer has completed
abbrev pub completed_count : Setting → World → ℕ → ℕ
completed_count s w p = length (ledger s.rules p (heard s.rules p (log_of w p)))
