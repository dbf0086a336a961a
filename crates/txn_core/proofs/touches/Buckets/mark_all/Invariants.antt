-- What each turn of the loops of `Buckets::mark_all` keeps.
use Rattle.std.proofs.Common.{take}
use Rattle.std.specs.List.{All}
use Rattle.txn_core.specs.Touching.{IsMarked, Grows}
use Rattle.txn_core.proofs.touches.Buckets.mark_all.Given as goal

-- what was marked still is, and the records so far are
abbrev pub invariant-loop-number : goal.invariant-loop-number
invariant-loop-number l = record {
  kept : Grows l.fn.self.words l.self.words;
  marked : All (IsMarked l.self.words l.position) (take l.number-index l.records);
}
