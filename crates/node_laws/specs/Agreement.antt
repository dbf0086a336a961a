-- The agreement law.
use Rattle.std.specs.Prelude.{ℕ, ◌<◌, ◌≤◌, ◌≡◌, Bool, false, List, length, get_or, take, Some, None, suc}
use Rattle.std.specs.List.{All, AllByRecursion}
use Rattle.txn_types.specs.declared.block.Block.{Block}
use Rattle.txn_types.specs.declared.message.Node.{Node}
use Rattle.txn_types.specs.declared.message.Node.TheVariants.{Peer, Orderer}
use Rattle.txn_types.specs.declared.message.Vote.{Vote}
use Rattle.txn_types.specs.declared.message.Message.{Message}
use Rattle.txn_types.specs.declared.message.Message.TheVariants as message
use Rattle.txn_types.specs.declared.txn.Outcome.{Outcome}
use Rattle.txn_types.specs.declared.block.Body.{Body}
use Rattle.txn_types.specs.declared.stream.Item.{Item}
use Rattle.txn_types.specs.declared.event.Event.{Event}
use Rattle.oxii_defs.specs.State.{State}
use Rattle.oxii_defs.specs.Table.{Table}
use Rattle.oxii_defs.specs.SerialPart.{serial_part}
use Rattle.known_defs.specs.Known.{no_outcome}
use Rattle.node_defs.specs.Rules.{Rules}
use Rattle.node_defs.specs.Log.{Letter, Log}
use Rattle.node_defs.specs.Ledger.{ledger, heard, split, ledger_state, accepted_at}
use Rattle.node_defs.specs.Sent.{no_standing}
use Rattle.node_defs.specs.Serial.{serial_outcomes_at, serial_ledger, serial_base}
use Rattle.node_defs.specs.Blocks.{block_at}
use Rattle.node_defs.specs.World.{World, Setting, is_faulty, log_of, IsWorld, completed_count}
use Rattle.node_defs.specs.Programs.{setting_of}
use Rattle.node_defs.specs.LawfulEvents.{IsSaidByFaulty}
use Rattle.node_defs.specs.Tame.{IsTame}
use Rattle.node_defs.specs.Text.{part_of}
use Rattle.node_laws.specs.Growth.{standings_at}

-- a vote on block n is the serial outcome of a position of that block of the chain
abbrev pub IsRight : Rules → List Block → ℕ → Vote → Type 0
IsRight rules chain n v =
    (m : ℕ) × (m < length chain) × (n ≡ suc m) × (v.t < length (block_at chain m).txns)
    × (v.outcome ≡ get_or (serial_outcomes_at rules chain m) v.t no_outcome)

-- what a correct node says: an orderer the blocks of the chain, a peer the serial outcomes
abbrev pub SaysRight : Rules → List Block → Node → Message → Type 0
SaysRight rules chain (Orderer o) (message.NewBlock b) = (m : ℕ) × (m < length chain) × (b.block ≡ block_at chain m)
SaysRight rules chain (Peer p) (message.Commit c) = AllByRecursion (IsRight rules chain c.n) c.votes
SaysRight rules chain _ _ = Unit {0}

-- a message is of a faulty node, or right
abbrev pub IsSound : Rules → List Block → (Node → Bool) → Letter → Type 0
IsSound rules chain faulty e = faulty e.from ≡ false → SaysRight rules chain e.from e.message

-- what holds of a peer by what it heard: it isn't halted, its accepted blocks are the chain's, what is agreed and what is
-- known of a position is the serial outcome, and its ledger and state are those of the serial run of the chain's first blocks
pub record IsWithChain (s : Setting) (p : ℕ) (L : Log) : Type 0 where
  pub runs : split s.rules p L ≡ None
  pub accepted : (m : ℕ) (b : Block) → accepted_at s.rules p m L ≡ Some b → (m < length s.chain) × (b ≡ block_at s.chain m)
  pub agreed : (m : ℕ) (b : Block) (t : ℕ) (o : Outcome) → accepted_at s.rules p m L ≡ Some b →
      (get_or (standings_at s.rules p m b L) t no_standing).agreed ≡ Some o → o ≡ get_or (serial_outcomes_at s.rules s.chain m) t no_outcome
  pub known : (m : ℕ) (b : Block) (t : ℕ) (o : Outcome) → accepted_at s.rules p m L ≡ Some b →
      (get_or (standings_at s.rules p m b L) t no_standing).believed ≡ Some o → o ≡ get_or (serial_outcomes_at s.rules s.chain m) t no_outcome
  pub few : length (ledger s.rules p L) ≤ length s.chain
  pub blocks : ledger s.rules p L ≡ serial_ledger s.rules s.chain (length (ledger s.rules p L))
  pub state : ledger_state s.rules (ledger s.rules p L) ≡ serial_base s.rules s.chain (length (ledger s.rules p L))

-- what holds of a world: each vote that a peer that isn't faulty sent is right, and each peer is with the chain
pub record IsInAgreement (s : Setting) (w : World) : Type 0 where
  pub votes : AllByRecursion (IsSound s.rules s.chain (is_faulty s)) w.pool
  pub peers : (p : ℕ) → IsWithChain s p (heard s.rules p (log_of w p))

-- if the input is tame, then any events in which faulty nodes alone say what they like lead to a world in agreement
abbrev pub Agreement : Type 0
Agreement = (table : Table) (genesis : State) (items : List Item) (bodies : List Body) (faulty : List Node) (events : List Event) (w : World) →
    let s = setting_of table genesis items bodies faulty in
    IsTame s → All (IsSaidByFaulty s) events → IsWorld s events w → IsInAgreement s w

-- THE SERIAL PART

-- then the lines of each peer are those of the serial run of its completed blocks
abbrev pub SerialPart : Type 0
SerialPart = (table : Table) (genesis : State) (items : List Item) (bodies : List Body) (faulty : List Node) (events : List Event) (w : World) (p : ℕ) →
    let s = setting_of table genesis items bodies faulty in
    IsTame s → All (IsSaidByFaulty s) events → IsWorld s events w →
    (completed_count s w p ≤ length s.chain)
    × (part_of s p (log_of w p) ≡ serial_part table genesis p (take (completed_count s w p) s.chain))
