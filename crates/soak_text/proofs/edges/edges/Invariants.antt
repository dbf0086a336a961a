-- What each turn of the loops of `edges` keeps.
use Rattle.std.proofs.Common.{◌≡◌, ◌≤◌, ◌*◌, take}
use Rattle.std.specs.List.{sum_by}
use Rattle.soak_text.specs.Summary.{dependent_pairs}
use Rattle.soak_text.proofs.edges.edges.Given as goal

abbrev pub invariant-loop-block : goal.invariant-loop-block
invariant-loop-block l = (l.count ≡ sum_by (dependent_pairs l.kind) (take l.block-index l.blocks)) × (l.count ≤ l.block-index * 4294967296)
