-- What each turn of the loops of `feed_peers` keeps.
use Rattle.std.proofs.Common.{ℕ, List, ◌++◌, take}
use Rattle.std.specs.List.{flat_map}
use Rattle.oxii_defs.specs.BlockBytes.{name_bytes, peer_name}
use Rattle.txn_core.specs.MeantTable.{table_of}
use Rattle.hash_ledger.proofs.bytes.feed_peers.Given as goal

abbrev pub invariant-loop-peer : goal.invariant-loop-peer
invariant-loop-peer g l = (m : List ℕ) → g.F.Feed.has l.initial.out m
    → g.F.Feed.has l.out (m ++ flat_map (λ p. name_bytes (peer_name (table_of l.table) p)) (take l.peer-index l.peers))
