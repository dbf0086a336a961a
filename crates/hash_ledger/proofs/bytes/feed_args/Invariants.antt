-- What each turn of the loops of `feed_args` keeps.
use Rattle.std.proofs.Common.{ℕ, List, ◌++◌, take}
use Rattle.std.specs.List.{flat_map}
use Rattle.oxii_defs.specs.BlockBytes.{arg_bytes}
use Rattle.txn_core.specs.MeantTable.{table_of}
use Rattle.hash_ledger.proofs.bytes.feed_args.Given as goal

abbrev pub invariant-loop-arg : goal.invariant-loop-arg
invariant-loop-arg g l = (m : List ℕ) → g.F.Feed.has l.initial.out m
    → g.F.Feed.has l.out (m ++ flat_map (arg_bytes (table_of l.table)) (take l.arg-index l.args))
