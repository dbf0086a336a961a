-- What each turn of the loops of `args_len` keeps.
use Rattle.std.proofs.Common.{◌≡◌, ◌+◌, ◌*◌, ◌≤◌, length, take}
use Rattle.std.specs.List.{flat_map}
use Rattle.oxii_defs.specs.BlockBytes.{arg_bytes}
use Rattle.txn_core.specs.MeantTable.{table_of}
use Rattle.txn_core.proofs.lengths.args_len.Given as goal

abbrev pub invariant-loop-arg : goal.invariant-loop-arg
invariant-loop-arg l = record {
  length : l.total ≡ 1 + length (flat_map (arg_bytes (table_of l.table)) (take l.arg-index l.args));
  short : l.total ≤ 1 + 34 * l.arg-index;
}
