-- A world is determined by its events, and `all` ends.
use Rattle.std.specs.Prelude.{ℕ, ◌+◌, ◌*◌, ◌≡◌, List, [], ◌∷◌, length, Some}
use Rattle.txn_types.specs.declared.block.Body.{Body}
use Rattle.txn_types.specs.declared.stream.Item.{Item}
use Rattle.txn_types.specs.declared.message.Node.{Node}
use Rattle.txn_types.specs.declared.message.Message.{Message}
use Rattle.txn_types.specs.declared.message.Message.TheVariants as message
use Rattle.txn_types.specs.declared.event.Event.{Event}
use Rattle.oxii_defs.specs.State.{State}
use Rattle.oxii_defs.specs.Table.{Table}
use Rattle.node_defs.specs.Log.{Letter}
use Rattle.node_defs.specs.World.{World, Setting, peers_of, all_from, IsWorld}
use Rattle.node_defs.specs.Programs.{setting_of}

-- how many transactions the block of a NEWBLOCK has
abbrev pub txns_carried_by : Message → ℕ
txns_carried_by (message.NewBlock m) = length m.block.txns
txns_carried_by (message.Commit c) = 0

-- how many transactions the NEWBLOCKs of a pool carry together: of each block a peer sends no more COMMITs than it has transactions
abbrev pub txns_carried : List Letter → ℕ
txns_carried [] = 0
txns_carried (x ∷ rest) = txns_carried_by x.message + txns_carried rest

-- how many messages the pool has at most when `all` ends
abbrev pub most_messages : Setting → World → ℕ
most_messages s w = length w.pool + peers_of s * txns_carried w.pool

-- `all` ends within as many turns, at each world that events lead to
abbrev pub AllEnds : Type 0
AllEnds = (table : Table) (genesis : State) (items : List Item) (bodies : List Body) (faulty : List Node) (events : List Event) (w : World) →
    let s = setting_of table genesis items bodies faulty in
    IsWorld s events w → (u : World) × (all_from s (most_messages s w) 1 w ≡ Some u)

-- events lead to exactly one world
pub record HasOneWorld (s : Setting) (events : List Event) : Type 0 where
  pub world : World
  pub is : IsWorld s events world
  pub only : (other : World) → IsWorld s events other → other ≡ world

-- so for each input
abbrev pub OneWorld : Type 0
OneWorld = (table : Table) (genesis : State) (items : List Item) (bodies : List Body) (faulty : List Node) (events : List Event) →
    HasOneWorld (setting_of table genesis items bodies faulty) events
