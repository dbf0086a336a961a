-- What each turn of the loops of `push_numbers` keeps.
use Rattle.std.proofs.Common.{◌≡◌, ◌+◌, ◌++◌, take}
use Rattle.std.specs.Prelude.{codes, decimal}
use Rattle.std.specs.List.{flat_map}
use Rattle.report_text.proofs.graph.push_numbers.Given as goal

abbrev pub invariant-loop-pred : goal.invariant-loop-pred
invariant-loop-pred l = l.text ≡ l.initial.text ++ flat_map (λ q. codes " " ++ decimal (q + 1)) (take l.pred-index l.preds)
