-- The parts of a world against a world of the definitions.
use Rattle.std.specs.Prelude.{ℕ, ◌+◌, ◌≡◌, ◌<◌, ◌≤◌, Bool, true, false, List, [], ◌∷◌, length, get_or, Option, Some, None}
use Rattle.txn_types.specs.declared.message.Commit.{Commit}
use Rattle.txn_types.specs.declared.message.Node.{Node}
use Rattle.txn_types.specs.declared.message.Node.TheVariants.{Peer}
use Rattle.txn_types.specs.declared.event.Event.{Event}
use Rattle.oxii_defs.specs.State.{State}
use Rattle.oxii_defs.specs.Table as meant
use Rattle.txn_core.specs.declared.table.Table.{Table}
use Rattle.txn_core.specs.MeantTable.{table_of}
use Rattle.node_defs.specs.Programs.{rules_of}
use Rattle.node_defs.specs.Log.{Letter, Log}
use Rattle.node_defs.specs.Sent.{sent}
use Rattle.node_defs.specs.World.{World, Setting, happens, is_faulty, log_of}
use Rattle.node_laws.specs.Fed.{IsFed, totals}
use Rattle.node_laws.specs.OneWorld.{txns_carried}
use Rattle.peer_laws.specs.Runs.{runs}
use Rattle.peer_turns.specs.declared.listing.BlockSpans.{BlockSpans}
use Rattle.peer_turns.specs.Peers.{IsLawfulMessage, KeptPeer}
use Rattle.peer_turns.specs.Relation.{StandsFor, rules_for}
use Rattle.peer_turns.specs.Traces.{AreTraced}
use Rattle.world_laws.specs.declared.burst.Burst.{Burst}
use Rattle.world_laws.specs.Deliveries.{AddsBursts, deliveries_in}

-- a NEWBLOCK has a lawful block
abbrev pub IsLawfulLetter : meant.Table → Letter → Type 0
IsLawfulLetter table x = IsLawfulMessage table x.message

-- each peer has this table
abbrev pub AreOfTable : Table → List (Option KeptPeer) → Type 0
AreOfTable table peers = (i : ℕ) (p : KeptPeer) → get_or peers i None ≡ Some p → p.table ≡ table

-- ONE DELIVERY

-- what a peer becomes with a message, what it sends, and what ran
pub record Takes (workers : ℕ) (x : Letter) (p q : KeptPeer) (commits : List Commit) (spans : List BlockSpans) : Type 0 where
  pub table_is : q.table ≡ p.table
  pub me_is : q.me ≡ p.me
  pub stands : (genesis : State) (L : Log) → StandsFor p genesis L → StandsFor q genesis (x ∷ L)
  pub sends : (genesis : State) (L : Log) → StandsFor p genesis L → commits ≡ sent (rules_for p genesis) p.me (x ∷ L)
  pub traced : (genesis : State) (L : Log) → StandsFor p genesis L → AreTraced p.table.kind workers (runs (rules_for p genesis) p.me (x ∷ L)) spans

-- what a slot becomes: a faulty peer has none, and takes nothing
abbrev pub Gave : ℕ → Letter → Option KeptPeer → Option KeptPeer → List Commit → List BlockSpans → Type 0
Gave workers x None new commits spans = (new ≡ None) × (commits ≡ []) × (spans ≡ [])
Gave workers x (Some p) new commits spans = (q : KeptPeer) × (new ≡ Some q) × Takes workers x p q commits spans

-- A WORLD

-- a peer that isn't faulty, for its log
pub record IsAlive (table : Table) (genesis : State) (s : Setting) (i : ℕ) (L : Log) (p : KeptPeer) : Type 0 where
  pub working : is_faulty s (Peer i) ≡ false
  pub table_is : p.table ≡ table
  pub me_is : p.me ≡ i
  pub stands : StandsFor p genesis L

-- a faulty peer has no slot
abbrev pub IsPeerFor : Table → State → Setting → ℕ → Log → Option KeptPeer → Type 0
IsPeerFor table genesis s i L None = is_faulty s (Peer i) ≡ true
IsPeerFor table genesis s i L (Some p) = IsAlive table genesis s i L p

-- a world of the definitions is what these parts show
pub record IsShown (table : Table) (pool : List Letter) (idle : ℕ) (peers : List (Option KeptPeer)) (genesis : State) (s : Setting) (w : World) : Type 0 where
  pub rules_are : s.rules ≡ rules_of (table_of table) genesis
  pub pool_is : pool ≡ w.pool
  pub idle_is : idle ≡ w.idle
  pub count : length peers ≡ length table.peers
  pub logs : length w.logs ≡ length table.peers
  pub each : (i : ℕ) → i < length table.peers → IsPeerFor table genesis s i (log_of w i) (get_or peers i None)

-- one more idle delivery, or not
abbrev pub idles : Bool → ℕ → ℕ
idles true n = n + 1
idles false n = n

-- what an event makes of a pool, of peers and of bursts
abbrev pub Moves : Table → ℕ → Event → Bool → List Letter → List (Option KeptPeer) → List Burst → List Letter → List (Option KeptPeer) → List Burst → Type 0
Moves table workers e idly pool peers bursts pool2 peers2 bursts2 = (idle : ℕ) (genesis : State) (s : Setting) (w : World) → IsShown table pool idle peers genesis s w →
    (turns : ℕ) × (u : World) × (happens s turns w e ≡ Some u) × IsShown table pool2 (idles idly idle) peers2 genesis s u × AddsBursts s workers (deliveries_in s turns w e) bursts bursts2

-- some world is what these parts show. Its peers heard messages of its pool alone, and so many false messages were said, that name so many items: so the pool has as many messages at most
pub record IsReached (table : Table) (faulty : List Node) (pool : List Letter) (peers : List (Option KeptPeer)) (falses items : ℕ) : Type 0 where
  pub idle : ℕ
  pub genesis : State
  pub setting : Setting
  pub world : World
  pub faulty_are : setting.faulty ≡ faulty
  pub shown : IsShown table pool idle peers genesis setting world
  pub fed : IsFed setting world
  pub few : length world.pool ≤ 69632 + falses + totals setting.rules 0 world.logs
  pub carried : txns_carried world.pool ≤ 65536 + items
