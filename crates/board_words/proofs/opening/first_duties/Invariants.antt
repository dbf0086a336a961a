-- What each turn of the loops of `first_duties` keeps.
use Rattle.std.proofs.Common.{◌≡◌, ◌<◌, ℕ, true, false, length, slice_index_or}
use Rattle.board_core.specs.Words.{need}
use Rattle.board_words.proofs.opening.first_duties.Given as goal

abbrev pub invariant-loop-t : goal.invariant-loop-t
invariant-loop-t l = (length l.duty.items ≡ length l.own)
    × ((t : ℕ) → t < l.t → (slice_index_or l.duty.items t false ≡ true → (slice_index_or l.own t false ≡ true) × (need l.words t ≡ 0)) × (slice_index_or l.own t false ≡ true → need l.words t ≡ 0 → slice_index_or l.duty.items t false ≡ true))
