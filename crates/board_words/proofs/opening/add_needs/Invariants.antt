-- What each turn of the loops of `add_needs` keeps.
use Rattle.std.proofs.Common.{◌≡◌, ◌≢◌, ◌+◌, ℕ, length, take, slice_index}
use Rattle.board_core.specs.Counts.{times}
use Rattle.board_core.specs.Words.{need, need_at}
use Rattle.board_words.proofs.opening.add_needs.Given as goal

abbrev pub invariant-loop-i : goal.invariant-loop-i
invariant-loop-i l = (length l.words.items ≡ length l.fn.words.items) × ((x : ℕ) → need l.words.items x ≡ times x (take l.i l.row) + need l.fn.words.items x)
    × ((i : ℕ) → ((t : ℕ) → i ≢ need_at t) → slice_index l.words.items i ≡ slice_index l.fn.words.items i)
