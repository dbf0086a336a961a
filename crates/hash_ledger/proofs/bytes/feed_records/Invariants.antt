-- What each turn of the loops of `feed_records` keeps.
use Rattle.std.proofs.Common.{ℕ, List, ◌++◌, take}
use Rattle.std.specs.List.{flat_map}
use Rattle.oxii_defs.specs.BlockBytes.{name_bytes, record_name}
use Rattle.txn_core.specs.MeantTable.{table_of}
use Rattle.hash_ledger.proofs.bytes.feed_records.Given as goal

abbrev pub invariant-loop-record : goal.invariant-loop-record
invariant-loop-record g l = (m : List ℕ) → g.F.Feed.has l.initial.out m
    → g.F.Feed.has l.out (m ++ flat_map (λ r. name_bytes (record_name (table_of l.table) r)) (take l.record-index l.records))
