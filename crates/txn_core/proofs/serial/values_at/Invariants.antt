-- What each turn of the loops of `values_at` keeps.
use Rattle.std.proofs.Common.{◌≡◌, length, map, take, slice_index}
use Rattle.txn_core.proofs.serial.values_at.Given as goal

abbrev pub invariant-loop-i : goal.invariant-loop-i
invariant-loop-i l = (take l.i l.inputs ≡ map (slice_index l.values) (take l.i l.reads)) × (l.reads ≡ l.fn.reads) × (length l.inputs ≡ 16)
