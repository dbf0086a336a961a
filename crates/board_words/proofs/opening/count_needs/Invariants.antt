-- What each turn of the loops of `count_needs` keeps.
use Rattle.std.proofs.Common.{◌≡◌, ◌≢◌, ◌≤◌, ℕ, [], length, slice_index, slice_index_or}
use Rattle.board_core.specs.Counts.{below, times}
use Rattle.board_core.specs.Words.{need, need_at}
use Rattle.board_words.proofs.opening.count_needs.Given as goal

abbrev pub invariant-loop-s : goal.invariant-loop-s
invariant-loop-s l = (length l.words.items ≡ length l.fn.words.items) × ((t : ℕ) → need l.words.items t ≡ below l.s (λ s. times t (slice_index_or l.rows s [])))
    × ((t : ℕ) → need l.words.items t ≤ l.s) × ((i : ℕ) → ((t : ℕ) → i ≢ need_at t) → slice_index l.words.items i ≡ slice_index l.fn.words.items i)
