-- Calm inputs: few enough nodes say something of their own. A faulty node that is silent is none of them.
use Rattle.std.specs.List.{All, list_any}
use Rattle.std.specs.Prelude.{ℕ, ◌<◌, Bool, false, List, length, count_by}
use Rattle.txn_types.specs.declared.event.Event.TheVariants as event
use Rattle.txn_types.specs.declared.event.Event.{Event}
use Rattle.txn_types.specs.declared.message.Node.TheVariants.{Peer, Orderer}
use Rattle.txn_types.specs.declared.message.Node.{Node}
use Rattle.txn_types.specs.declared.stream.CutLimits.{CutLimits}
use Rattle.txn_types.specs.declared.stream.Item.{Item}
use Rattle.oxii_defs.specs.State.{State}
use Rattle.oxii_defs.specs.Table.{Table}
use Rattle.node_defs.specs.AgreedSettings.{IsAgreedSetting}
use Rattle.node_defs.specs.Blocks.{block_at}
use Rattle.node_defs.specs.Same.{same_node}
use Rattle.node_defs.specs.Tame.{rules_at}
use Rattle.node_defs.specs.World.{Setting, count_from, orderers_of}

-- the node says something with this event
abbrev pub is_said_by : Node → Event → Bool
is_said_by x (event.SayBlock from number prev items preds) = same_node x from
is_said_by x (event.SayCommit from commit) = same_node x from
is_said_by x _ = false

-- it says something with one of these
abbrev pub has_said : List Event → Node → Bool
has_said events x = list_any (is_said_by x) events

-- fewer orderers than the quorum say something of their own, and at each block of the chain,
-- for each application of a transaction, fewer agents than are to agree
pub record IsCalm (s : Setting) (events : List Event) : Type 0 where
  pub orderers : count_by (λ o. has_said events (Orderer o)) (count_from 0 (orderers_of s)) < s.rules.table.quorum
  pub agents : (m : ℕ) → m < length s.chain → All (λ t. count_by (λ p. has_said events (Peer p)) ((rules_at s m).agents t.app) < (rules_at s m).tau t.app) (block_at s.chain m).txns

-- few enough nodes say something of their own with these events, at each block that orderers agree on
abbrev pub IsCalmInput : Table → State → List Item → CutLimits → List Node → List Event → Type 0
IsCalmInput table genesis items limits faulty events = (s : Setting) → IsAgreedSetting table genesis items limits faulty s → IsCalm s events
