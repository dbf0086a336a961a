-- What each turn of the loops of `records_len` keeps.
use Rattle.std.proofs.Common.{◌≡◌, ◌+◌, ◌*◌, ◌≤◌, length, take}
use Rattle.std.specs.List.{flat_map}
use Rattle.oxii_defs.specs.BlockBytes.{name_bytes, record_name}
use Rattle.txn_core.specs.MeantTable.{table_of}
use Rattle.txn_core.proofs.lengths.records_len.Given as goal

abbrev pub invariant-loop-record : goal.invariant-loop-record
invariant-loop-record l = record {
  length : l.total ≡ 1 + length (flat_map (λ r. name_bytes (record_name (table_of l.table) r)) (take l.record-index l.records));
  short : l.total ≤ 1 + 33 * l.record-index;
}
