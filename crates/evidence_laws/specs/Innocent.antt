-- Marks of nodes that are named faulty alone.
use Rattle.std.specs.Prelude.{◌≡◌, false, List}
use Rattle.txn_types.specs.declared.message.Node.TheVariants.{Peer, Orderer}
use Rattle.node_defs.specs.World.{Setting, is_faulty}
use Rattle.evidence_marks.specs.declared.evidence.OrdererMark.{OrdererMark}
use Rattle.evidence_marks.specs.declared.evidence.AgentMark.{AgentMark}
use Rattle.evidence_marks.specs.Evidence.{orderer_order, agent_order}
use Rattle.evidence_marks.specs.Marks.{is_marked}

-- a node that isn't named faulty is in none of these marks
pub record AreNoneInnocent (s : Setting) (blocks : List OrdererMark) (votes : List AgentMark) : Type 0 where
  pub orderers : (m : OrdererMark) → is_faulty s (Orderer m.orderer) ≡ false → is_marked orderer_order blocks m ≡ false
  pub agents : (m : AgentMark) → is_faulty s (Peer m.agent) ≡ false → is_marked agent_order votes m ≡ false
