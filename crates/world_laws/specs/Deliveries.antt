-- The deliveries of events, in their order, and the bursts of what ran with them.
use Rattle.std.specs.Prelude.{ℕ, zero, suc, ◌≡◌, if◌then◌else◌, List, [], ◌∷◌, ◌++◌, Option, Some, None}
use Rattle.txn_types.specs.declared.txn.Kind.{Kind}
use Rattle.txn_types.specs.declared.message.Node.TheVariants.{Peer}
use Rattle.txn_types.specs.declared.event.Event.{Event}
use Rattle.txn_types.specs.declared.event.Event.TheVariants as event
use Rattle.node_defs.specs.Rules.{Rules}
use Rattle.node_defs.specs.Log.{Letter, Log}
use Rattle.node_defs.specs.World.{World, Setting, count_from, given_all, given_to, happens, is_faulty, log_of, message_at, peers_of}
use Rattle.peer_laws.specs.Runs.{BlockRuns, runs}
use Rattle.peer_turns.specs.declared.listing.BlockSpans.{BlockSpans}
use Rattle.peer_turns.specs.Traces.{IsTraceOfBlock}
use Rattle.world_laws.specs.declared.burst.Burst.{Burst}

-- a delivery: the peer, and its log with the message as the latest entry
pub record Delivery : Type 0 where
  pub peer : ℕ
  pub log : Log

-- that of x to p
abbrev pub delivery_of : World → ℕ → Letter → Delivery
delivery_of w p x = record { peer = p; log = x ∷ log_of w p }

-- of a message that is there or not: to a faulty peer there is none
abbrev pub delivery_to : Setting → World → ℕ → Option Letter → List Delivery
delivery_to s w p None = []
delivery_to s w p (Some x) = if is_faulty s (Peer p) then [] else delivery_of w p x ∷ []

-- of x to each of these peers that isn't faulty, in order
abbrev pub deliveries_each : Setting → Letter → List ℕ → World → List Delivery
deliveries_each s x [] w = []
deliveries_each s x (p ∷ rest) w = delivery_to s w p (Some x) ++ deliveries_each s x rest (if is_faulty s (Peer p) then w else given_to s w p x)

-- of the messages from number m on, each to all peers, within this many turns
abbrev pub deliveries_all : Setting → ℕ → ℕ → World → List Delivery
deliveries_all s zero m w = []
deliveries_all s (suc turns) m w =
    elim (message_at w m) [ None ↦ [] | Some x ↦ deliveries_each s x (count_from 0 (peers_of s)) w ++ deliveries_all s turns (suc m) (given_all s x w) ]

-- those of one event, where `all` ends within this many turns
abbrev pub deliveries_in : Setting → ℕ → World → Event → List Delivery
deliveries_in s turns w (event.Deliver msg to) = delivery_to s w to (message_at w msg)
deliveries_in s turns w event.All = deliveries_all s turns 1 w
deliveries_in s turns w (event.SayBlock from number prev items preds) = []
deliveries_in s turns w (event.SayCommit from commit) = []

-- those of events that lead on from a world
abbrev pub AreDeliveries : Setting → World → List Event → List Delivery → Type 0
AreDeliveries s w [] deliveries = deliveries ≡ []
AreDeliveries s w (e ∷ rest) deliveries = (turns : ℕ) × (v : World) × (happens s turns w e ≡ Some v)
    × (more : List Delivery) × (deliveries ≡ deliveries_in s turns w e ++ more) × AreDeliveries s v rest more

-- BURSTS

-- spans that a peer hands out, as a burst of that peer
abbrev pub burst_at : ℕ → BlockSpans → Burst
burst_at p spans = record { peer = p; spans = spans }

-- what ran of a block at a peer
pub record PeerRuns : Type 0 where
  pub peer : ℕ
  pub ran : BlockRuns

-- block by block
abbrev pub runs_at : ℕ → List BlockRuns → List PeerRuns
runs_at p [] = []
runs_at p (r ∷ rest) = record { peer = p; ran = r } ∷ runs_at p rest

-- what ran with each of these deliveries
abbrev pub runs_with : Rules → List Delivery → List PeerRuns
runs_with rules [] = []
runs_with rules (d ∷ rest) = runs_at d.peer (runs rules d.peer d.log) ++ runs_with rules rest

-- the spans of a burst are a lawful trace of what ran of a block at its peer
pub record IsBurstOf (kind : Kind) (workers : ℕ) (r : PeerRuns) (b : Burst) : Type 0 where
  pub peer_is : b.peer ≡ r.peer
  pub trace : IsTraceOfBlock kind workers r.ran b.spans

-- so one by one
abbrev pub AreBurstsOf : Kind → ℕ → List PeerRuns → List Burst → Type 0
AreBurstsOf kind workers [] [] = Unit {0}
AreBurstsOf kind workers (r ∷ ran) (b ∷ bursts) = IsBurstOf kind workers r b × AreBurstsOf kind workers ran bursts
AreBurstsOf kind workers [] (b ∷ bursts) = ⊥
AreBurstsOf kind workers (r ∷ ran) [] = ⊥

-- the bursts of deliveries: for each delivery, one for each block of which something first ran with it
abbrev pub AreBursts : Setting → ℕ → List Delivery → List Burst → Type 0
AreBursts s workers deliveries bursts = AreBurstsOf s.rules.table.kind workers (runs_with s.rules deliveries) bursts

-- the bursts of these deliveries come after
abbrev pub AddsBursts : Setting → ℕ → List Delivery → List Burst → List Burst → Type 0
AddsBursts s workers deliveries old new = (more : List Burst) × (new ≡ old ++ more) × AreBursts s workers deliveries more
