-- What each turn of the loops of `push_marked` keeps.
use Rattle.std.proofs.Common.{◌≡◌, ◌++◌, ◌-◌, length}
use Rattle.node_defs.specs.World.{count_from}
use Rattle.txn_core.specs.MeantTable.{table_of}
use Rattle.command_text.specs.Marked.{marked_lines}
use Rattle.command_text.proofs.evidence.push_marked.Given as goal

-- what is there and the lines of the peers to come are all
abbrev pub invariant-loop-number : goal.invariant-loop-number
invariant-loop-number l = l.initial.text ++ marked_lines (table_of l.initial.world.table) l.initial.world.peers (count_from 0 (length l.initial.world.table.peers))
    ≡ l.text ++ marked_lines (table_of l.initial.world.table) l.initial.world.peers (count_from l.number (length l.initial.world.table.peers - l.number))
