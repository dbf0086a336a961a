-- What each turn of the loops of `values_of` keeps.
use Rattle.std.proofs.Common.{◌≡◌, take}
use Rattle.doc_tables.proofs.records.values_of.Given as goal

abbrev pub invariant-loop-value : goal.invariant-loop-value
invariant-loop-value l = l.values ≡ take l.value-index l.list
