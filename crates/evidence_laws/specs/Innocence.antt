-- The innocence law: evidence speaks of nodes that are named faulty alone.
use Rattle.std.specs.Prelude.{ℕ, List}
use Rattle.std.specs.List.{All}
use Rattle.txn_types.specs.declared.message.Node.{Node}
use Rattle.txn_types.specs.declared.stream.CutLimits.{CutLimits}
use Rattle.txn_types.specs.declared.stream.Item.{Item}
use Rattle.txn_types.specs.declared.event.Event.{Event}
use Rattle.oxii_defs.specs.State.{State}
use Rattle.oxii_defs.specs.Table.{Table}
use Rattle.node_defs.specs.Ledger.{heard}
use Rattle.node_defs.specs.World.{World, Setting, IsWorld, log_of}
use Rattle.node_defs.specs.AgreedSettings.{IsAgreedSetting}
use Rattle.node_defs.specs.LawfulEvents.{IsSaidByFaulty}
use Rattle.evidence_marks.specs.declared.evidence.OrdererMark.{OrdererMark}
use Rattle.evidence_marks.specs.declared.evidence.AgentMark.{AgentMark}
use Rattle.evidence_marks.specs.Evidence.{IsEvidence}
use Rattle.evidence_laws.specs.Innocent.{AreNoneInnocent}

-- for every input and every list of events in which faulty nodes alone say what they like, tame or not: so of the evidence of what any peer heard
abbrev pub Innocence : Type 0
Innocence = (table : Table) (genesis : State) (items : List Item) (limits : CutLimits) (faulty : List Node) (s : Setting) (events : List Event) (w : World) (p : ℕ) (orderers : List OrdererMark) (agents : List AgentMark) →
    IsAgreedSetting table genesis items limits faulty s → All (IsSaidByFaulty s) events → IsWorld s events w →
    IsEvidence s.rules p (heard s.rules p (log_of w p)) orderers agents → AreNoneInnocent s orderers agents
