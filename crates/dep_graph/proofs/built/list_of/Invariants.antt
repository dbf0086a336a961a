-- What each turn of the loops of `list_of` keeps.
use Rattle.std.proofs.Common.{◌≡◌, ◌++◌}
use Rattle.dep_graph.proofs.built.list_of.Given as goal

-- the places so far, and those that are left
abbrev pub invariant-loop-place : goal.invariant-loop-place
invariant-loop-place l = l.list ++ l.place-iterator ≡ l.fn.preds
