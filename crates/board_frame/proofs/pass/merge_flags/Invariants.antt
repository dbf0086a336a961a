-- What each turn of the loops of `merge_flags` keeps.
use Rattle.std.proofs.Common.{◌≡◌, ◌<◌, ◌≤◌, ◌||◌, ℕ, false, length, slice_index_or}
use Rattle.board_frame.proofs.pass.merge_flags.Given as goal

abbrev pub invariant-loop-t : goal.invariant-loop-t
invariant-loop-t l = (length l.keep.items ≡ length l.fn.keep.items) × ((k : ℕ) → k < l.t → slice_index_or l.keep.items k false ≡ (slice_index_or l.fn.keep.items k false || slice_index_or l.other k false))
    × ((k : ℕ) → l.t ≤ k → slice_index_or l.keep.items k false ≡ slice_index_or l.fn.keep.items k false)
