-- Nodes that are named faulty.
use Rattle.std.specs.Prelude.{Bool, List}
use Rattle.std.specs.List.{list_any}
use Rattle.txn_types.specs.declared.message.Node.{Node}
use Rattle.node_defs.specs.Same.{same_node}

-- the node is among those that are named faulty
abbrev pub is_named : List Node → Node → Bool
is_named faulty x = list_any (same_node x) faulty
