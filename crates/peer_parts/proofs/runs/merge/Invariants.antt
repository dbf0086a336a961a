-- What each turn of the loops of `merge` keeps.
use Rattle.peer_parts.proofs.LearnLemmas.{Merged}
use Rattle.peer_parts.proofs.runs.merge.Given as goal

abbrev pub invariant-loop-t : goal.invariant-loop-t
invariant-loop-t l = Merged l.fn.known l.ran l.known l.t
