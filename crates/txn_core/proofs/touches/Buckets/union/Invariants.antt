-- What each turn of the loops of `Buckets::union` keeps.
use Rattle.std.proofs.Common.{take}
use Rattle.txn_core.specs.Touching.{Unites}
use Rattle.txn_core.proofs.touches.Buckets.union.Given as goal

-- the positions at the records so far
abbrev pub invariant-loop-number : goal.invariant-loop-number
invariant-loop-number l = Unites l.self.words (take l.number-index l.records) l.word l.all
