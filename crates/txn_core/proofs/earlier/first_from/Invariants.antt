-- What each turn of the loops of `first_from` keeps.
use Rattle.std.proofs.Common.{◌≡◌, ◌-◌, drop, length}
use Rattle.oxii_defs.specs.Dependency.{preds_from}
use Rattle.txn_core.proofs.earlier.first_from.Given as goal

-- no position so far
abbrev pub invariant-loop-next : goal.invariant-loop-next
invariant-loop-next l = preds_from l.kind l.later l.start (drop l.start l.earlier) ≡ preds_from l.kind l.later l.next (drop l.next l.earlier)

abbrev pub decreases-loop-next : goal.decreases-loop-next
decreases-loop-next l = length l.earlier - l.next
