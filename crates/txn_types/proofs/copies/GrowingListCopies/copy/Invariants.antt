-- What each turn of the loops of `GrowingListCopies::copy` keeps.
use Rattle.std.proofs.Common.{◌≡◌, take}
use Rattle.txn_types.proofs.copies.GrowingListCopies.copy.Given as goal

abbrev pub invariant-loop-item : goal.invariant-loop-item
invariant-loop-item g l = (l.all ≡ take l.item-index l.item-items) × (l.item-items ≡ l.self)
