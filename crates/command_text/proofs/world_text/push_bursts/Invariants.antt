-- What each turn of the loops of `push_bursts` keeps.
use Rattle.std.proofs.Common.{◌≡◌, ◌++◌, take}
use Rattle.txn_core.specs.MeantTable.{table_of}
use Rattle.command_text.specs.Traced.{bursts_lines}
use Rattle.command_text.proofs.world_text.push_bursts.Given as goal

abbrev pub invariant-loop-burst : goal.invariant-loop-burst
invariant-loop-burst l = l.text ≡ l.initial.text ++ bursts_lines (table_of l.table) (take l.burst-index l.bursts)
