-- What each turn of the loops of `all_sets_are_held` keeps.
use Rattle.std.proofs.Common.{◌<◌, ◌≤◌, ℕ, length}
use Rattle.txn_types.specs.Rising.{IsRising}
use Rattle.known_defs.specs.Known.{txn_at}
use Rattle.board_words.proofs.opening.all_sets_are_held.Given as goal

abbrev pub invariant-loop-t : goal.invariant-loop-t
invariant-loop-t l = (t : ℕ) → t < l.t → (length (txn_at l.txns t).reads ≤ 16) × (length (txn_at l.txns t).writes ≤ 16) × IsRising (txn_at l.txns t).writes
