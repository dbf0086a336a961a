-- What the command `graph` prints: the agreed blocks, with what each transaction depends on.
use Rattle.std.specs.Prelude.{ℕ, ◌+◌, ◌++◌, ◌≡◌, List, [], ◌∷◌, length, Option, Some, None, codes, decimal}
use Rattle.std.specs.List.{flat_map}
use Rattle.txn_types.specs.declared.txn.Txn.{Txn}
use Rattle.txn_types.specs.declared.block.Config.{Config}
use Rattle.txn_types.specs.declared.block.Block.{Block}
use Rattle.txn_types.specs.declared.block.Body.{Body}
use Rattle.txn_types.specs.declared.stream.Rejected.{Rejected}
use Rattle.txn_types.specs.declared.stream.CutLimits.{CutLimits}
use Rattle.txn_types.specs.declared.stream.Item.{Item}
use Rattle.oxii_defs.specs.Table.{Table}
use Rattle.oxii_defs.specs.BlockBytes.{app_name, op_name}
use Rattle.oxii_defs.specs.Dependency.{graph_of}
use Rattle.oxii_defs.specs.Chain.{chain}
use Rattle.oxii_defs.specs.Lines.{block_line, blocks_line, config_line}
use Rattle.node_defs.specs.Cutting.{AreAgreed, rejected_from}
use Rattle.node_defs.specs.Text.{rejected_line}

-- the numbers of the predecessors, counted from 1, or `none`
abbrev pub preds_text : List ℕ → List ℕ
preds_text [] = codes " none"
preds_text (p ∷ rest) = flat_map (λ q. codes " " ++ decimal (q + 1)) (p ∷ rest)

-- a transaction with its number, counted from 1, and what it depends on
unfoldable pub after_line : Table → ℕ → Txn → List ℕ → List ℕ
after_line table i t preds =
    codes "txn " ++ decimal i ++ codes " " ++ app_name table t.app ++ codes " " ++ op_name table t.app t.op
    ++ codes " after" ++ preds_text preds ++ codes "\n"

-- the transactions are numbered from i on
abbrev pub after_lines : Table → ℕ → List Txn → List (List ℕ) → List ℕ
after_lines table i (t ∷ rest) (preds ∷ lists) = after_line table i t preds ++ after_lines table (i + 1) rest lists
after_lines table i _ _ = []

abbrev pub graph_body_lines : Table → List Txn → Option Config → List ℕ
graph_body_lines table txns None = after_lines table 1 txns (graph_of table.kind txns)
graph_body_lines table txns (Some config) = config_line table config

-- the lines of a block with its graph
abbrev pub graph_block_lines : Table → Block → List ℕ
graph_block_lines table b = block_line table b ++ graph_body_lines table b.txns b.config

-- the rejected requests, the count of blocks, and each block of the chain with its graph
abbrev pub graph_text : Table → List Rejected → List Block → List ℕ
graph_text table rejected blocks = flat_map rejected_line rejected ++ blocks_line (length blocks) ++ flat_map (graph_block_lines table) blocks

-- what is printed of a stream: the text of its agreed blocks
abbrev pub IsGraphTextOf : Table → List Item → CutLimits → List ℕ → Type 0
IsGraphTextOf table items limits lines =
    (bodies : List Body) × AreAgreed table limits items bodies × (lines ≡ graph_text table (rejected_from table 0 items) (chain table bodies))
