-- The serial run as a program: the states, outcomes and ledgers of blocks, and the part that they print.
use Rattle.std.specs.Prelude.{List, [], ◌∷◌, ℕ}
use Rattle.txn_types.specs.declared.txn.Txn.{Txn}
use Rattle.txn_types.specs.declared.txn.Outcome.{Outcome}
use Rattle.txn_types.specs.declared.block.Block.{Block}
use Rattle.oxii_defs.specs.State.{State}
use Rattle.oxii_defs.specs.Table.{Table}
use Rattle.oxii_defs.specs.Outcomes.{outcome_in}
use Rattle.oxii_defs.specs.Effects.{apply}
use Rattle.oxii_defs.specs.Lines.{Entry, peer_lines}

abbrev pub after_txn : Table → State → Txn → State
after_txn table s t = apply s t (outcome_in table s t)

-- the serial run: the state and the outcomes of one transaction after another
abbrev pub serial_state : Table → State → List Txn → State
serial_state table s [] = s
serial_state table s (t ∷ rest) = serial_state table (after_txn table s t) rest

abbrev pub serial_outcomes : Table → State → List Txn → List Outcome
serial_outcomes table s [] = []
serial_outcomes table s (t ∷ rest) = outcome_in table s t ∷ serial_outcomes table (after_txn table s t) rest

abbrev pub ledger_of : Table → State → List Block → List Entry
ledger_of table s [] = []
ledger_of table s (b ∷ rest) =
    record { block = b; outcomes = serial_outcomes table s b.txns } ∷ ledger_of table (serial_state table s b.txns) rest

abbrev pub state_after : Table → State → List Block → State
state_after table s [] = s
state_after table s (b ∷ rest) = state_after table (serial_state table s b.txns) rest

-- the part of a peer that completed these blocks: the ledger and the state of their serial run from the genesis state
abbrev pub serial_part : Table → State → ℕ → List Block → List ℕ
serial_part table genesis peer blocks = peer_lines table peer (ledger_of table genesis blocks) (state_after table genesis blocks)
