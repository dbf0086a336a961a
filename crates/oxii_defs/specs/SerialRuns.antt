-- The serial run, by the operation's meaning: transactions and blocks, one after another.
use Rattle.std.specs.Prelude.{◌≡◌, ℕ, List, [], ◌∷◌}
use Rattle.txn_types.specs.declared.txn.Txn.{Txn}
use Rattle.txn_types.specs.declared.txn.Outcome.{Outcome}
use Rattle.txn_types.specs.declared.block.Block.{Block}
use Rattle.oxii_defs.specs.State.{State}
use Rattle.oxii_defs.specs.Meaning.{HasOutcome}
use Rattle.oxii_defs.specs.Table.{Table, body_in}
use Rattle.oxii_defs.specs.Effects.{apply}
use Rattle.oxii_defs.specs.Lines.{Entry, peer_lines}

-- the transactions lead from s to u: each has its outcome in the state that those before it left
abbrev pub RunsSerially : Table → State → List Txn → List Outcome → State → Type 0
RunsSerially table s [] [] u = u ≡ s
RunsSerially table s (t ∷ rest) (o ∷ outcomes) u = HasOutcome (body_in table t) t s o × RunsSerially table (apply s t o) rest outcomes u
RunsSerially table s _ _ u = ⊥

-- the blocks lead from s to u: the ledger has each with the outcomes of its transactions
abbrev pub BlocksRunSerially : Table → State → List Block → List Entry → State → Type 0
BlocksRunSerially table s [] [] u = u ≡ s
BlocksRunSerially table s (b ∷ rest) (e ∷ ledger) u =
    (v : State) × (e.block ≡ b) × RunsSerially table s b.txns e.outcomes v × BlocksRunSerially table v rest ledger u
BlocksRunSerially table s _ _ u = ⊥

-- the lines of a peer that completed these blocks: those of a ledger and a state to which they lead from the genesis state
pub record IsSerialPart (table : Table) (genesis : State) (peer : ℕ) (blocks : List Block) (lines : List ℕ) : Type 0 where
  pub ledger : List Entry
  pub state : State
  pub run : BlocksRunSerially table genesis blocks ledger state
  pub shown : lines ≡ peer_lines table peer ledger state
