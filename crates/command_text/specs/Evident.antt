-- What evidence prints.
use Rattle.std.specs.Prelude.{◌≡◌, ◌<◌, ℕ, Bool, true, false, ◌++◌, if◌then◌else◌, List, [], ◌∷◌}
use Rattle.txn_types.specs.declared.message.Node.TheVariants.{Peer}
use Rattle.node_defs.specs.Ledger.{heard}
use Rattle.node_defs.specs.World.{IsWorld, Setting, World, count_from, is_faulty, log_of, peers_of}
use Rattle.node_defs.specs.AgreedSettings.{IsAgreedSetting}
use Rattle.txn_core.specs.States.{state_of}
use Rattle.evidence_marks.specs.declared.evidence.OrdererMark.{OrdererMark}
use Rattle.evidence_marks.specs.declared.evidence.AgentMark.{AgentMark}
use Rattle.evidence_marks.specs.Evidence.{IsEvidence}
use Rattle.report_text.specs.EvidenceText.{evidence_lines}
use Rattle.input_doc.specs.Inputs.{Input}

-- the lines of those of these peers that aren't faulty, with the marks of each
abbrev pub seen_lines : Setting → (ℕ → List OrdererMark) → (ℕ → List AgentMark) → List ℕ → List ℕ
seen_lines s orderers agents [] = []
seen_lines s orderers agents (p ∷ rest) = (if is_faulty s (Peer p) then [] else evidence_lines s.rules.table p (orderers p) (agents p)) ++ seen_lines s orderers agents rest

-- the lines of the evidence of the log of each peer that isn't faulty, in table order
pub record AreEvidenceLines (s : Setting) (w : World) (lines : List ℕ) : Type 0 where
  pub orderers : ℕ → List OrdererMark
  pub agents : ℕ → List AgentMark
  pub are : (p : ℕ) → p < peers_of s → is_faulty s (Peer p) ≡ false → IsEvidence s.rules p (heard s.rules p (log_of w p)) (orderers p) (agents p)
  pub printed : lines ≡ seen_lines s orderers agents (count_from 0 (peers_of s))

-- those that are printed of a world: all, or none
abbrev pub IsShownOf : Bool → Setting → World → List ℕ → Type 0
IsShownOf true s w lines = AreEvidenceLines s w lines
IsShownOf false s w lines = lines ≡ []

-- the evidence lines of an input: those of the world of its events, in its setting
pub record HasEvidenceLines (input : Input) (lines : List ℕ) : Type 0 where
  pub setting : Setting
  pub is : IsAgreedSetting input.table (state_of input.genesis) input.items input.limits input.faulty setting
  pub world : World
  pub led : IsWorld setting input.schedule world
  pub lines_are : AreEvidenceLines setting world lines

-- what evidence prints of an input, and nothing where none is asked for
abbrev pub IsEvidenceText : Bool → Input → List ℕ → Type 0
IsEvidenceText true input lines = HasEvidenceLines input lines
IsEvidenceText false input lines = lines ≡ []
