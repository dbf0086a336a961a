-- The evidence of the peers of a world, as the world keeps them.
use Rattle.std.specs.Prelude.{ℕ, Bool, ◌++◌, if◌then◌else◌, List, [], ◌∷◌, length, get_or, Option, Some, None}
use Rattle.oxii_defs.specs.Table as meant
use Rattle.node_defs.specs.World.{count_from}
use Rattle.txn_core.specs.declared.table.Table.{Table}
use Rattle.txn_core.specs.MeantTable.{table_of}
use Rattle.evidence_marks.specs.declared.evidence.OrdererMark.{OrdererMark}
use Rattle.evidence_marks.specs.declared.evidence.AgentMark.{AgentMark}
use Rattle.peer_turns.specs.Peers.{KeptPeer}
use Rattle.report_text.specs.EvidenceText.{evidence_lines}

-- the marks of a slot: a faulty peer has none
abbrev pub orderers_in : Option KeptPeer → List OrdererMark
orderers_in None = []
orderers_in (Some k) = k.inbox.marks

abbrev pub agents_in : Option KeptPeer → List AgentMark
agents_in None = []
agents_in (Some k) = k.book.marks

-- the lines of a slot
abbrev pub slot_lines : meant.Table → ℕ → Option KeptPeer → List ℕ
slot_lines table p None = []
slot_lines table p (Some k) = evidence_lines table p k.inbox.marks k.book.marks

-- the lines of the slots of these peers
abbrev pub marked_lines : meant.Table → List (Option KeptPeer) → List ℕ → List ℕ
marked_lines table slots [] = []
marked_lines table slots (p ∷ rest) = slot_lines table p (get_or slots p None) ++ marked_lines table slots rest

-- the lines of all peers, where they are asked for
abbrev pub shown_lines : Bool → Table → List (Option KeptPeer) → List ℕ
shown_lines evidence table slots = if evidence then marked_lines (table_of table) slots (count_from 0 (length table.peers)) else []
