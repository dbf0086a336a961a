-- The parts of a world before the first event.
use Rattle.std.specs.Prelude.{ℕ, ◌≡◌, ◌<◌, true, false, List, [], length, get_or, Option, Some, None}
use Rattle.std.specs.FinMap.{empty}
use Rattle.txn_types.specs.declared.message.Node.{Node}
use Rattle.txn_types.specs.declared.message.Node.TheVariants.{Peer}
use Rattle.oxii_defs.specs.State.{State}
use Rattle.txn_core.specs.declared.table.Table.{Table}
use Rattle.txn_core.specs.MeantTable.{table_of}
use Rattle.node_defs.specs.World.{Setting}
use Rattle.node_laws.specs.Named.{is_named}
use Rattle.peer_turns.specs.Peers.{KeptPeer}
use Rattle.peer_turns.specs.Relation.{StandsFor}
use Rattle.world_laws.specs.Worlds.{setting_with}

-- a setting with the nodes of this table, of which these are faulty, and nothing agreed
abbrev pub nodes_of : Table → List Node → Setting
nodes_of table faulty = setting_with (table_of table) empty [] [] faulty

-- the slot of a peer before its first message: a faulty one has none
abbrev pub IsNewSlot : Table → List Node → State → ℕ → Option KeptPeer → Type 0
IsNewSlot table faulty genesis i None = is_named faulty (Peer i) ≡ true
IsNewSlot table faulty genesis i (Some p) = (is_named faulty (Peer i) ≡ false) × (p.table ≡ table) × (p.me ≡ i) × StandsFor p genesis []

-- the slots of the first n peers
pub record AreNewSlots (table : Table) (faulty : List Node) (genesis : State) (n : ℕ) (peers : List (Option KeptPeer)) : Type 0 where
  pub count : length peers ≡ n
  pub each : (i : ℕ) → i < n → IsNewSlot table faulty genesis i (get_or peers i None)
