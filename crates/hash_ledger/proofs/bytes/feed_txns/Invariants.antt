-- What each turn of the loops of `feed_txns` keeps.
use Rattle.std.proofs.Common.{ℕ, List, ◌++◌, take}
use Rattle.std.specs.List.{flat_map}
use Rattle.oxii_defs.specs.BlockBytes.{txn_bytes}
use Rattle.txn_core.specs.MeantTable.{table_of}
use Rattle.hash_ledger.proofs.bytes.feed_txns.Given as goal

abbrev pub invariant-loop-txn : goal.invariant-loop-txn
invariant-loop-txn g l = (m : List ℕ) → g.F.Feed.has l.initial.out m
    → g.F.Feed.has l.out (m ++ flat_map (txn_bytes (table_of l.table)) (take l.txn-index l.txns))
