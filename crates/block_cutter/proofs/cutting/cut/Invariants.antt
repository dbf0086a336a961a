-- What each turn of the loops of `cut` keeps.
use Rattle.std.proofs.Common.{◌≡◌, ◌<◌, ◌++◌, length, drop}
use Rattle.node_defs.specs.Admission.{pieces_of}
use Rattle.node_defs.specs.Cutting.{admitted, rejected_from}
use Rattle.txn_core.specs.MeantTable.{table_of}
use Rattle.block_cutter.specs.Standing.{StandsBefore}
use Rattle.block_cutter.proofs.cutting.cut.Given as goal

abbrev pub invariant-loop-i : goal.invariant-loop-i
invariant-loop-i l = record {
  room : length l.cutter.blocks.current.txns < l.limits.txns;
  stands : StandsBefore (table_of l.table) l.limits (admitted (table_of l.table) l.items) (drop l.i l.items) l.cutter.blocks.bodies l.cutter.blocks.current.txns l.cutter.blocks.current.bytes;
  rejected : l.cutter.rejected ++ rejected_from (table_of l.table) l.i (drop l.i l.items) ≡ rejected_from (table_of l.table) 0 l.items;
  carried : l.cutter.admitted ++ pieces_of (table_of l.table) (drop l.i l.items) ≡ pieces_of (table_of l.table) l.items;
}
