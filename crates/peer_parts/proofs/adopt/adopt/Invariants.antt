-- What each turn of the loops of `adopt` keeps.
use Rattle.std.proofs.Common.{◌≡◌, ◌≤◌, ℕ, true, None, length, get_or}
use Rattle.board_defs.specs.Closure.{IsKnownClosed, is_own}
use Rattle.steal_pool.specs.Fitting.{AllFitAt}
use Rattle.peer_parts.specs.Found.{IsKept, IsSound, HasGiven, unknown}
use Rattle.peer_parts.specs.Tasks.{frame_of}
use Rattle.peer_parts.proofs.AdoptLemmas.{is_other}
use Rattle.peer_parts.proofs.adopt.adopt.Given as goal

abbrev pub invariant-loop-t : goal.invariant-loop-t
invariant-loop-t l = record {
  long : length l.known ≡ length l.task.block.now.txns;
  fit : AllFitAt l.task.block.now.txns l.known;
  closed : IsKnownClosed l.task.table.now.kind l.task.block.now.txns l.known;
  kept : IsKept l.fn.known l.known;
  own : (u : ℕ) → is_own (frame_of l.task) u ≡ true → get_or l.known u None ≡ get_or l.fn.known u None;
  sound : IsSound (frame_of l.task) l.task.agreed.now l.fn.known → IsSound (frame_of l.task) l.task.agreed.now l.known;
  few : unknown l.known ≤ unknown l.fn.known;
  others : IsSound (frame_of l.task) l.task.agreed.now l.fn.known → HasGiven (is_other (frame_of l.task)) (frame_of l.task) l.task.agreed.now l.known l.t;
}
