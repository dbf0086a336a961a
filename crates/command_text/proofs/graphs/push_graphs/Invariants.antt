-- What each turn of the loops of `push_graphs` keeps.
use Rattle.std.proofs.Common.{◌≡◌, ◌++◌, take}
use Rattle.std.specs.List.{flat_map}
use Rattle.node_defs.specs.GraphText.{graph_block_lines}
use Rattle.txn_core.specs.MeantTable.{table_of}
use Rattle.command_text.proofs.graphs.push_graphs.Given as goal

abbrev pub invariant-loop-block : goal.invariant-loop-block
invariant-loop-block l = l.text ≡ l.initial.text ++ flat_map (graph_block_lines (table_of l.table)) (take l.block-index l.blocks)
