-- What each turn of the loops of `settle` keeps.
use Rattle.std.proofs.Common.{◌≡◌, length}
use Rattle.board_defs.specs.Closure.{IsKnownClosed}
use Rattle.steal_pool.specs.Fitting.{AllFitAt}
use Rattle.peer_parts.specs.Found.{IsKept, IsSound, unknown}
use Rattle.peer_parts.specs.Tasks.{IsTraceOf, frame_of}
use Rattle.peer_parts.proofs.rounds.settle.Given as goal

abbrev pub invariant-loop-spans : goal.invariant-loop-spans
invariant-loop-spans g l = record {
  long : length l.known ≡ length l.task.block.now.txns;
  fit : AllFitAt l.task.block.now.txns l.known;
  closed : IsKnownClosed l.task.table.now.kind l.task.block.now.txns l.known;
  kept : IsKept l.fn.known l.known;
  sound : IsSound (frame_of l.task) l.task.agreed.now l.fn.known → IsSound (frame_of l.task) l.task.agreed.now l.known;
  trace : IsTraceOf l.task l.workers l.fn.known l.known l.spans;
}

abbrev pub decreases-loop-spans : goal.decreases-loop-spans
decreases-loop-spans g l = unknown l.known
