-- What each turn of the loops of `total` keeps.
use Rattle.std.proofs.Common.{◌≡◌, ◌≤◌, ◌*◌, take}
use Rattle.std.specs.List.{sum}
use Rattle.soak_text.proofs.values.total.Given as goal

abbrev pub invariant-loop-value : goal.invariant-loop-value
invariant-loop-value l = (l.total ≡ sum (take l.value-index l.values)) × (l.total ≤ l.value-index * 18446744073709551616)
