-- What a world keeps, and the events that it stands for.
use Rattle.std.specs.Prelude.{ℕ, ◌+◌, ◌^◌, ◌≡◌, ◌<◌, ◌≤◌, List, [], ◌∷◌, ◌++◌, map, length, Option, Some, None, count_by, sum_by}
use Rattle.std.specs.Borrow.{Bor}
use Rattle.std.specs.List.{All, AllByRecursion}
use Rattle.txn_types.specs.Values.{max_false}
use Rattle.txn_types.specs.declared.block.Block.{Block}
use Rattle.txn_types.specs.declared.stream.Piece.{Piece}
use Rattle.txn_types.specs.declared.message.Node.{Node}
use Rattle.txn_types.specs.declared.message.Message.{Message}
use Rattle.txn_types.specs.declared.event.Event.{Event}
use Rattle.oxii_defs.specs.State.{State}
use Rattle.oxii_defs.specs.Table as meant
use Rattle.oxii_defs.specs.BlockBytes.{block_hash}
use Rattle.oxii_defs.specs.Lawful.{IsLawfulTable}
use Rattle.txn_core.specs.declared.table.Table.{Table}
use Rattle.txn_core.specs.MeantTable.{table_of}
use Rattle.node_defs.specs.LawfulItems.{AreLawfulPieces}
use Rattle.node_defs.specs.Programs.{rules_of}
use Rattle.node_defs.specs.Log.{Letter}
use Rattle.node_defs.specs.World.{World, Setting, IsWorld, is_false, items_named, start}
use Rattle.node_defs.specs.LawfulEvents.{IsLawfulEvent}
use Rattle.peer_turns.specs.Peers.{KeptPeer}
use Rattle.world_laws.specs.declared.burst.Burst.{Burst}
use Rattle.world_laws.specs.Deliveries.{AreBursts, AreDeliveries, Delivery}
use Rattle.world_laws.specs.Shown.{AreOfTable, IsLawfulLetter, IsReached, IsShown}

-- the setting of a table, a genesis state, agreed blocks, what each item of the stream carries, and faulty nodes
abbrev pub setting_with : meant.Table → State → List Block → List (Option Piece) → List Node → Setting
setting_with table genesis chain pieces faulty = record { rules = rules_of table genesis; chain = chain; pieces = pieces; faulty = faulty }

-- what a world keeps: its table, the hashes of the agreed blocks, what each item of the stream carries and the faulty nodes;
-- the messages sent so far, how many deliveries were idle, how many false messages were said and how many items they named; a slot for each peer, and the bursts
pub record KeptWorld : Type 0 where
  pub table : Table
  pub hashes : List (List ℕ)
  pub pieces : List (Option Piece)
  pub faulty : List Node
  pub pool : List Letter
  pub idle : ℕ
  pub falses : ℕ
  pub items : ℕ
  pub peers : List (Option KeptPeer)
  pub bursts : List Burst

-- what holds of a world without its events
pub record IsWellKept (k : KeptWorld) : Type 0 where
  pub table_lawful : IsLawfulTable (table_of k.table)
  pub pieces_lawful : AreLawfulPieces (table_of k.table) k.pieces
  pub lawful : AllByRecursion (IsLawfulLetter (table_of k.table)) k.pool
  pub of_table : AreOfTable k.table k.peers
  pub count : length k.peers ≡ length k.table.peers
  pub few_falses : k.falses ≤ max_false
  pub few_items : k.items ≤ 16384
  pub reached : IsReached k.table k.faulty k.pool k.peers k.falses k.items

-- a setting of what stays as it is
pub record IsSettingOf (k : KeptWorld) (genesis : State) (s : Setting) : Type 0 where
  pub rules_are : s.rules ≡ rules_of (table_of k.table) genesis
  pub hashes_are : k.hashes ≡ map (block_hash (table_of k.table)) s.chain
  pub pieces_are : s.pieces ≡ k.pieces
  pub faulty_are : s.faulty ≡ k.faulty

-- a world stands for the events that led to it
pub record IsWorldOf (k : KeptWorld) (genesis : State) (s : Setting) (events : List Event) : Type 0 where
  pub setting : IsSettingOf k genesis s
  pub world : World
  pub is : IsWorld s events world
  pub shown : IsShown k.table k.pool k.idle k.peers genesis s world

-- its bursts are those of the deliveries of these events, where there were at most so many workers
abbrev pub HasBursts : ℕ → KeptWorld → Setting → List Event → Type 0
HasBursts workers k s events = (deliveries : List Delivery) × AreDeliveries s (start s) events deliveries × AreBursts s workers deliveries k.bursts

-- events that a world can take, one after another: each is lawful in a setting of the world, in which state and agreed blocks play no part, and there are not too many false messages, items and idle deliveries
pub record CanTake (k : KeptWorld) (events : List Event) : Type 0 where
  pub each : (genesis : State) → All (IsLawfulEvent (setting_with (table_of k.table) genesis [] k.pieces k.faulty)) events
  pub falses : k.falses + count_by is_false events ≤ max_false
  pub items : k.items + sum_by items_named events ≤ 16384
  pub idle : k.idle + length events < 2 ^ 32

-- a peer that is lent, if there is one
abbrev pub peer_in : Option (Bor KeptPeer) → Option KeptPeer
peer_in None = None
peer_in (Some p) = Some p.now

-- WHAT EVENTS MAKE OF A WORLD

-- table, hashes, pieces and faulty nodes stay as they are
pub record IsSameGround (old new : KeptWorld) : Type 0 where
  pub table : new.table ≡ old.table
  pub hashes : new.hashes ≡ old.hashes
  pub pieces : new.pieces ≡ old.pieces
  pub faulty : new.faulty ≡ old.faulty

-- the new world stands for these events more. Its bursts are those of the deliveries, where so many workers are no more than there were before
pub record Follows (workers : ℕ) (old : KeptWorld) (events : List Event) (new : KeptWorld) : Type 0 where
  pub ground : IsSameGround old new
  pub falses : new.falses ≡ old.falses + count_by is_false events
  pub items : new.items ≡ old.items + sum_by items_named events
  pub idle : new.idle ≤ old.idle + length events
  pub stands : (genesis : State) (s : Setting) (before : List Event) → IsWorldOf old genesis s before → IsWorldOf new genesis s (before ++ events)
  pub bursts : (n : ℕ) → workers ≤ n → (genesis : State) (s : Setting) (before : List Event) → IsWorldOf old genesis s before → HasBursts n old s before → HasBursts n new s (before ++ events)

-- a message more, that names so many items
abbrev pub with_said : KeptWorld → Node → Message → ℕ → KeptWorld
with_said k from m n = record {
  table = k.table;
  hashes = k.hashes;
  pieces = k.pieces;
  faulty = k.faulty;
  pool = k.pool ++ record { from = from; message = m } ∷ [];
  idle = k.idle;
  falses = k.falses + 1;
  items = k.items + n;
  peers = k.peers;
  bursts = k.bursts;
}
