-- What each turn of the loops of `record_names` keeps.
use Rattle.std.proofs.Common.{◌≡◌, map}
use Rattle.std.specs.List.{range_with_len}
use Rattle.soak_input.specs.Generator.{record_name}
use Rattle.soak_input.proofs.names.record_names.Given as goal

abbrev pub invariant-loop-number : goal.invariant-loop-number
invariant-loop-number l = l.names ≡ map record_name (range_with_len 0 l.number)
