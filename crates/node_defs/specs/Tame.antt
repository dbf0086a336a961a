-- Tame inputs: few enough nodes are faulty.
use Rattle.std.specs.Prelude.{ℕ, zero, suc, ◌<◌, List, [], ◌∷◌, length, count_by}
use Rattle.std.specs.List.{All}
use Rattle.txn_types.specs.declared.block.Block.{Block}
use Rattle.txn_types.specs.declared.message.Node.TheVariants.{Peer, Orderer}
use Rattle.node_defs.specs.Rules.{Rules, in_force_behind}
use Rattle.node_defs.specs.Blocks.{block_at}
use Rattle.node_defs.specs.World.{Setting, is_faulty, orderers_of, count_from}

-- the first m blocks of a chain, the latest first
abbrev pub first_blocks : List Block → ℕ → List Block
first_blocks chain zero = []
first_blocks chain (suc m) = block_at chain m ∷ first_blocks chain m

-- the rules in force at block m + 1 of the chain
abbrev pub rules_at : Setting → ℕ → Rules
rules_at s m = in_force_behind s.rules (first_blocks s.chain m)

-- how many orderers of the table are faulty
abbrev pub faulty_orderers : Setting → ℕ
faulty_orderers s = count_by (λ o. is_faulty s (Orderer o)) (count_from 0 (orderers_of s))

-- how many of the agents that an application has at block m + 1 are faulty
abbrev pub faulty_agents : Setting → ℕ → ℕ → ℕ
faulty_agents s m app = count_by (λ p. is_faulty s (Peer p)) ((rules_at s m).agents app)

-- fewer orderers than the quorum are faulty, and at each block of the chain,
-- for each application of a transaction, fewer agents than are to agree
pub record IsTame (s : Setting) : Type 0 where
  pub orderers : faulty_orderers s < s.rules.table.quorum
  pub agents : (m : ℕ) → m < length s.chain → All (λ t. faulty_agents s m t.app < (rules_at s m).tau t.app) (block_at s.chain m).txns
