-- What each turn of the loops of `nones` keeps.
use Rattle.std.proofs.Common.{◌≡◌, None, replicate}
use Rattle.peer_work.proofs.opened.nones.Given as goal

abbrev pub invariant-loop-i : goal.invariant-loop-i
invariant-loop-i l = l.all ≡ replicate l.i None
