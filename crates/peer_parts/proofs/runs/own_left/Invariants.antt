-- What each turn of the loops of `own_left` keeps.
use Rattle.std.proofs.Common.{◌≡◌}
use Rattle.peer_parts.specs.Ready.{left_upto}
use Rattle.peer_parts.proofs.runs.own_left.Given as goal

abbrev pub invariant-loop-t : goal.invariant-loop-t
invariant-loop-t l = l.left ≡ left_upto l.own l.known l.t
