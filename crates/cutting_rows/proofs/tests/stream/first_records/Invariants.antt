-- What each turn of the loops of `first_records` keeps.
use Rattle.std.proofs.Common.{◌≡◌}
use Rattle.std.specs.List.{range_with_len}
use Rattle.cutting_rows.proofs.tests.stream.first_records.Given as goal

abbrev pub invariant-loop-number : goal.invariant-loop-number
invariant-loop-number l = l.all ≡ range_with_len 0 l.number
