-- The serial run of a chain: its blocks, one after another, each with the outcomes of its transactions run one after another.
use Rattle.std.specs.Prelude.{ℕ, zero, suc, ◌<◌, ◌≡◌, List, [], ◌∷◌, length}
use Rattle.txn_types.specs.declared.txn.Outcome.{Outcome}
use Rattle.txn_types.specs.declared.txn.Txn.{Txn}
use Rattle.txn_types.specs.declared.block.Block.{Block}
use Rattle.oxii_defs.specs.State.{State}
use Rattle.oxii_defs.specs.Effects.{apply}
use Rattle.oxii_defs.specs.Lines.{Entry}
use Rattle.node_defs.specs.Rules.{Rules}
use Rattle.node_defs.specs.Ledger.{ledger_state}
use Rattle.node_defs.specs.Blocks.{block_at}

-- one transaction after another: the outcomes
abbrev pub serial : Rules → State → List Txn → List Outcome
serial rules s [] = []
serial rules s (t ∷ rest) = rules.outcome s t ∷ serial rules (apply s t (rules.outcome s t)) rest

-- the first m blocks with the outcomes of the serial run from the genesis state, the latest first
abbrev pub serial_ledger : Rules → List Block → ℕ → List Entry
serial_ledger rules chain zero = []
serial_ledger rules chain (suc m) =
    record { block = block_at chain m; outcomes = serial rules (ledger_state rules (serial_ledger rules chain m)) (block_at chain m).txns } ∷ serial_ledger rules chain m

-- the state before block m + 1
abbrev pub serial_base : Rules → List Block → ℕ → State
serial_base rules chain m = ledger_state rules (serial_ledger rules chain m)

-- the outcomes of block m + 1
abbrev pub serial_outcomes_at : Rules → List Block → ℕ → List Outcome
serial_outcomes_at rules chain m = serial rules (serial_base rules chain m) (block_at chain m).txns

-- blocks are numbered from 1
abbrev pub IsNumbered : List Block → Type 0
IsNumbered chain = (m : ℕ) → m < length chain → (block_at chain m).number ≡ suc m
