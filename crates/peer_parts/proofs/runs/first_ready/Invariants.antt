-- What each turn of the loops of `first_ready` keeps.
use Rattle.peer_parts.specs.Ready.{NoneReady}
use Rattle.peer_parts.specs.Tasks.{frame_of}
use Rattle.peer_parts.proofs.runs.first_ready.Given as goal

abbrev pub invariant-loop-t : goal.invariant-loop-t
invariant-loop-t l = NoneReady (frame_of l.task) l.known l.t
