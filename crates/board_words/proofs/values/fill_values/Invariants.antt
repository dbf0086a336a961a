-- What each turn of the loops of `fill_values` keeps.
use Rattle.std.proofs.Common.{◌≡◌, ◌≢◌, ◌<◌, ℕ, length, slice_index}
use Rattle.board_core.specs.Words.{value, value_place}
use Rattle.board_words.proofs.values.fill_values.Given as goal

abbrev pub invariant-loop-r : goal.invariant-loop-r
invariant-loop-r l = (length l.words.items ≡ length l.fn.words.items) × ((r : ℕ) → r < l.r → value l.words.items r ≡ slice_index l.values r)
    × ((i : ℕ) → ((r : ℕ) → i ≢ value_place r) → slice_index l.words.items i ≡ slice_index l.fn.words.items i)
