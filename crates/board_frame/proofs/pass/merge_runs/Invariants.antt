-- What each turn of the loops of `merge_runs` keeps.
use Rattle.std.proofs.Common.{◌≡◌, ◌<◌, ◌≤◌, ℕ, None, length, slice_index_or, cond}
use Rattle.std.specs.Prelude.{is_some}
use Rattle.board_frame.proofs.pass.merge_runs.Given as goal

abbrev pub invariant-loop-t : goal.invariant-loop-t
invariant-loop-t l = (length l.keep.items ≡ length l.fn.keep.items) × ((k : ℕ) → k < l.t → slice_index_or l.keep.items k None ≡ cond (is_some (slice_index_or l.other k None)) (slice_index_or l.other k None) (slice_index_or l.fn.keep.items k None))
    × ((k : ℕ) → l.t ≤ k → slice_index_or l.keep.items k None ≡ slice_index_or l.fn.keep.items k None)
