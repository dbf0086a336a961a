-- What each turn of the loops of `no_outcomes` keeps.
use Rattle.std.proofs.Common.{◌≡◌, ℕ, length, None, slice_index_or}
use Rattle.board_words.proofs.room.no_outcomes.Given as goal

abbrev pub invariant-loop : goal.invariant-loop
invariant-loop l = (length l.known ≡ l.counter) × ((t : ℕ) → slice_index_or l.known t None ≡ None)
