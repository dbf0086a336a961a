-- Evidence: who was seen to say two different things.
use Rattle.std.specs.Prelude.{ℕ, ◌==◌, Bool, false, ◌&&◌, ◌||◌, not, List, [], ◌∷◌, filter_map}
use Rattle.std.specs.declared.cmp.Ordering.{Ordering}
use Rattle.std.specs.Ordering.{nat_cmp, ordering_then}
use Rattle.std.specs.List.{list_any, flat_map}
use Rattle.txn_types.specs.declared.txn.Outcome.{Outcome}
use Rattle.txn_types.specs.declared.block.Block.{Block}
use Rattle.node_defs.specs.Same.{same_block, same_outcome}
use Rattle.node_defs.specs.Rules.{Rules}
use Rattle.node_defs.specs.Log.{Log, newblock_in, votes_in}
use Rattle.evidence_marks.specs.declared.evidence.OrdererMark.{OrdererMark}
use Rattle.evidence_marks.specs.declared.evidence.AgentMark.{AgentMark}
use Rattle.evidence_marks.specs.Marks.{AreMarks}

-- one of these sayings is who's, and other than x
abbrev pub says_other : {A : Type 0} → (A → A → Bool) → ℕ → A → List (ℕ × A) → Bool
says_other same who x said = list_any (λ y. (y.0 == who) && not (same x y.1)) said

-- two of these sayings are who's, and differ
abbrev pub says_two : {A : Type 0} → (A → A → Bool) → ℕ → List (ℕ × A) → Bool
says_two same who [] = false
says_two same who (x ∷ before) = ((x.0 == who) && says_other same who x.1 before) || says_two same who before

-- all good NEWBLOCKs for n, with their orderers
abbrev pub newblocks_on : Rules → ℕ → Log → List (ℕ × Block)
newblocks_on rules n L = filter_map (newblock_in rules n) L

-- all votes on position t of block n, with their senders: those of other peers of the table
abbrev pub votes_on : Rules → ℕ → ℕ → ℕ → Log → List (ℕ × Outcome)
votes_on rules me n t L = flat_map (votes_in rules me n t) L

-- the orderer said two different blocks for this number
abbrev pub orderer_differs : Rules → Log → OrdererMark → Bool
orderer_differs rules L m = says_two same_block m.orderer (newblocks_on rules m.n L)

-- the peer voted two different outcomes for this position
abbrev pub agent_differs : Rules → ℕ → Log → AgentMark → Bool
agent_differs rules me L m = says_two same_outcome m.agent (votes_on rules me m.n m.t L)

-- by table order of the orderer, then by number
abbrev pub orderer_order : OrdererMark → OrdererMark → Ordering
orderer_order a b = ordering_then (nat_cmp a.orderer b.orderer) (nat_cmp a.n b.n)

-- by table order of the peer, then by number, then by position
abbrev pub agent_order : AgentMark → AgentMark → Ordering
agent_order a b = ordering_then (nat_cmp a.agent b.agent) (ordering_then (nat_cmp a.n b.n) (nat_cmp a.t b.t))

-- the evidence of a log: all such marks, in rising order
pub record IsEvidence (rules : Rules) (me : ℕ) (L : Log) (orderers : List OrdererMark) (agents : List AgentMark) : Type 0 where
  pub orderers_are : AreMarks orderer_order (orderer_differs rules L) orderers
  pub agents_are : AreMarks agent_order (agent_differs rules me L) agents
