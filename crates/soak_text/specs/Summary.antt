-- The summary of the run of an input that a seed made.
use Rattle.std.specs.Prelude.{◌≡◌, ℕ, ◌++◌, Bool, true, false, not, List, length, sum_by, count_by, codes, decimal}
use Rattle.hex.specs.Hex.{encode_lower}
use Rattle.txn_types.specs.declared.block.Block.{Block}
use Rattle.txn_types.specs.declared.txn.Kind.{Kind}
use Rattle.txn_types.specs.declared.txn.Outcome.{Outcome}
use Rattle.txn_types.specs.declared.txn.Outcome.TheVariants.{Commit, Abort}
use Rattle.oxii_defs.specs.Dependency.{graph_of}
use Rattle.oxii_defs.specs.Lines.{Entry, blocks_line}
use Rattle.oxii_defs.specs.State.{State, value_in}
use Rattle.oxii_defs.specs.Table.{Table}
use Rattle.node_defs.specs.Accepted.{tip}
use Rattle.node_defs.specs.Ledger.{heard, ledger, ledger_state}
use Rattle.node_defs.specs.World.{Setting, World, IsWorld, count_from, log_of}
use Rattle.node_defs.specs.AgreedSettings.{IsAgreedSetting}
use Rattle.txn_core.specs.States.{state_of}
use Rattle.input_doc.specs.Inputs.{Input}
use Rattle.soak_input.specs.Generator.{IsSoakInput}

-- WHAT IS COUNTED

-- how many pairs of a block's transactions are dependent: for each position, the positions before it on which it depends
abbrev pub dependent_pairs : Kind → Block → ℕ
dependent_pairs kind block = sum_by length (graph_of kind block.txns)

-- those of all blocks
abbrev pub edges : Kind → List Block → ℕ
edges kind blocks = sum_by (dependent_pairs kind) blocks

abbrev pub is_commit : Outcome → Bool
is_commit (Commit entries) = true
is_commit (Abort why) = false

-- how many transactions of a ledger committed
abbrev pub commits : List Entry → ℕ
commits done = sum_by (λ e. count_by is_commit e.outcomes) done

-- how many aborted
abbrev pub aborts : List Entry → ℕ
aborts done = sum_by (λ e. count_by (λ o. not (is_commit o)) e.outcomes) done

-- the values of all records of the table together
abbrev pub total : Table → State → ℕ
total table s = sum_by (value_in s) (count_from 0 (length table.records))

-- LINES

-- a word and a number
abbrev pub count_line : List ℕ → ℕ → List ℕ
count_line word n = word ++ codes " " ++ decimal n ++ codes "\n"

-- the options
abbrev pub soak_line : (seed txns : ℕ) → List ℕ
soak_line seed txns = codes "soak " ++ decimal seed ++ codes " " ++ decimal txns ++ codes "\n"

-- the agreed blocks, and their dependent pairs
abbrev pub chain_lines : Kind → List Block → List ℕ
chain_lines kind chain = blocks_line (length chain) ++ count_line (codes "edges") (edges kind chain)

-- a ledger's counts
abbrev pub ledger_lines : List Entry → List ℕ
ledger_lines done = count_line (codes "commits") (commits done) ++ count_line (codes "aborts") (aborts done)

-- the hash of the last block, or 32 zero bytes where there is none
abbrev pub tip_line : List ℕ → List ℕ
tip_line hash = codes "tip " ++ encode_lower hash ++ codes "\n"

-- the completed blocks of peer p1, the latest first
abbrev pub first_ledger : Setting → World → List Entry
first_ledger s w = ledger s.rules 0 (heard s.rules 0 (log_of w 0))

-- the lines of a world: its chain, the ledger and the state of p1, its pool, and the hash of p1's last block
abbrev pub summary : Setting → (seed txns : ℕ) → World → List ℕ
summary s seed txns w =
    soak_line seed txns ++ chain_lines s.rules.table.kind s.chain ++ ledger_lines (first_ledger s w)
    ++ count_line (codes "sum") (total s.rules.table (ledger_state s.rules (first_ledger s w)))
    ++ count_line (codes "messages") (length w.pool) ++ tip_line (tip s.rules (first_ledger s w))

-- what `soak` prints for a seed and a count of transactions: the summary of the world of the events of the input that they make, in its setting
pub record IsSoakText (seed txns : ℕ) (lines : List ℕ) : Type 0 where
  pub input : Input
  pub made : IsSoakInput seed txns input
  pub setting : Setting
  pub is : IsAgreedSetting input.table (state_of input.genesis) input.items input.limits input.faulty setting
  pub world : World
  pub played : IsWorld setting input.schedule world
  pub printed : lines ≡ summary setting seed txns world
