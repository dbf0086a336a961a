-- What each turn of the loops of `pairs_of` keeps.
use Rattle.std.proofs.Common.{◌≡◌, length, take}
use Rattle.std.specs.List.{sum_by}
use Rattle.soak_text.proofs.edges.pairs_of.Given as goal

abbrev pub invariant-loop-t : goal.invariant-loop-t
invariant-loop-t l = l.pairs ≡ sum_by length (take l.t l.graph.preds)
