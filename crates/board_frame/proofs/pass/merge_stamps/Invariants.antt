-- What each turn of the loops of `merge_stamps` keeps.
use Rattle.std.proofs.Common.{◌≡◌, ◌<◌, ◌≤◌, ℕ, cond, eqb, length, get_or}
use Rattle.board_frame.proofs.pass.merge_stamps.Given as goal

abbrev pub invariant-loop-t : goal.invariant-loop-t
invariant-loop-t l = (length l.keep.items ≡ length l.fn.keep.items) × ((k : ℕ) → k < l.t → get_or l.keep.items k 0 ≡ cond (eqb (get_or l.other k 0) 0) (get_or l.fn.keep.items k 0) (get_or l.other k 0))
    × ((k : ℕ) → l.t ≤ k → get_or l.keep.items k 0 ≡ get_or l.fn.keep.items k 0)
