-- The printed text. Each line ends with a line feed, and numbers are decimal.
use Rattle.std.specs.Prelude.{ℕ, ◌+◌, ◌==◌, ◌++◌, List, [], ◌∷◌, length, Option, Some, None, codes, decimal, if◌then◌else◌}
use Rattle.std.specs.List.{flat_map}
use Rattle.hex.specs.Hex.{encode_lower}
use Rattle.txn_types.specs.declared.txn.Reason.{Reason}
use Rattle.txn_types.specs.declared.txn.Reason.TheVariants.{Require, Overflow, Underflow, ZeroDivisor, Undeclared}
use Rattle.txn_types.specs.declared.txn.Outcome.{Outcome}
use Rattle.txn_types.specs.declared.txn.Outcome.TheVariants.{Commit, Abort}
use Rattle.txn_types.specs.declared.txn.Txn.{Txn}
use Rattle.txn_types.specs.declared.block.Block.{Block}
use Rattle.txn_types.specs.declared.block.Config.{Config}
use Rattle.oxii_defs.specs.Syntax.{Name}
use Rattle.oxii_defs.specs.State.{State, value_in}
use Rattle.oxii_defs.specs.Table.{Table}
use Rattle.oxii_defs.specs.BlockBytes.{record_name, peer_name, app_name, op_name, block_hash}

-- a block of a ledger, with the outcome of each of its transactions
pub record Entry : Type 0 where
  pub block : Block
  pub outcomes : List Outcome

-- OUTCOMES

abbrev pub reason_word : Reason → List ℕ
reason_word Require = codes "require"
reason_word Overflow = codes "overflow"
reason_word Underflow = codes "underflow"
reason_word ZeroDivisor = codes "zero_divisor"
reason_word Undeclared = codes "undeclared"

-- the new value of a record, or a dash where it was not written
abbrev pub entry_text : Option ℕ → List ℕ
entry_text None = codes "-"
entry_text (Some v) = decimal v

-- ` RECORD=V`
abbrev pub entry_part : Table → ℕ → Option ℕ → List ℕ
entry_part table r entry = codes " " ++ record_name table r ++ codes "=" ++ entry_text entry

-- one for each record of the write set
abbrev pub entries_text : Table → List ℕ → List (Option ℕ) → List ℕ
entries_text table (r ∷ rest) (entry ∷ entries) =
    entry_part table r entry ++ entries_text table rest entries
entries_text table _ _ = []

abbrev pub outcome_text : Table → Txn → Outcome → List ℕ
outcome_text table t (Commit entries) = codes "commit" ++ entries_text table t.writes entries
outcome_text table t (Abort reason) = codes "abort " ++ reason_word reason

-- THE LINES OF A BLOCK

abbrev pub block_line : Table → Block → List ℕ
block_line table b = codes "block " ++ decimal b.number ++ codes " " ++ encode_lower (block_hash table b) ++ codes "\n"

unfoldable pub txn_line : Table → ℕ → Txn → Outcome → List ℕ
txn_line table i t o =
    codes "txn " ++ decimal i ++ codes " " ++ app_name table t.app ++ codes " " ++ op_name table t.app t.op
    ++ codes " " ++ outcome_text table t o ++ codes "\n"

-- the transactions are numbered from i on
abbrev pub txn_lines : Table → ℕ → List Txn → List Outcome → List ℕ
txn_lines table i (t ∷ rest) (o ∷ outcomes) = txn_line table i t o ++ txn_lines table (i + 1) rest outcomes
txn_lines table i _ _ = []

-- the names are in table order
abbrev pub config_line : Table → Config → List ℕ
config_line table c =
    codes "config " ++ app_name table c.app ++ codes " tau " ++ decimal c.tau ++ codes " agents"
    ++ flat_map (λ p. codes " " ++ peer_name table p) c.agents ++ codes "\n"

abbrev pub body_lines : Table → Entry → Option Config → List ℕ
body_lines table e None = txn_lines table 1 e.block.txns e.outcomes
body_lines table e (Some config) = config_line table config

abbrev pub entry_lines : Table → Entry → List ℕ
entry_lines table e = block_line table e.block ++ body_lines table e e.block.config

-- THE STATE

-- how many of the records from number r on have a value other than 0
abbrev pub values_count : State → ℕ → List Name → ℕ
values_count s r [] = 0
values_count s r (name ∷ names) = if value_in s r == 0 then values_count s (r + 1) names else values_count s (r + 1) names + 1

abbrev pub value_line : Name → ℕ → List ℕ
value_line name value = if value == 0 then [] else codes "value " ++ name ++ codes " " ++ decimal value ++ codes "\n"

-- the lines of the records from number r on whose value is not 0
abbrev pub value_lines : State → ℕ → List Name → List ℕ
value_lines s r [] = []
value_lines s r (name ∷ names) = value_line name (value_in s r) ++ value_lines s (r + 1) names

unfoldable pub state_lines : Table → State → List ℕ
state_lines table s = codes "state " ++ decimal (values_count s 0 table.records) ++ codes "\n" ++ value_lines s 0 table.records

-- A PEER'S PART, AND WHAT STANDS AROUND IT

unfoldable pub peer_line : Table → ℕ → ℕ → List ℕ
peer_line table peer count = codes "peer " ++ peer_name table peer ++ codes " completed " ++ decimal count ++ codes "\n"

-- a peer that is not halted, with its ledger and its state
abbrev pub peer_lines : Table → ℕ → List Entry → State → List ℕ
peer_lines table peer ledger s = peer_line table peer (length ledger) ++ flat_map (entry_lines table) ledger ++ state_lines table s

-- how many blocks are agreed
abbrev pub blocks_line : ℕ → List ℕ
blocks_line count = codes "blocks " ++ decimal count ++ codes "\n"

-- how many messages there were, and how many deliveries were idle
abbrev pub tail_lines : ℕ → ℕ → List ℕ
tail_lines messages idle = codes "messages " ++ decimal messages ++ codes "\nidle " ++ decimal idle ++ codes "\n"
