-- What each turn of the loops of `rows_of` keeps.
use Rattle.std.proofs.Common.{◌≡◌, ◌<◌, ◌≤◌, ℕ, [], length, slice_index_or}
use Rattle.board_core.specs.Counts.{times}
use Rattle.board_work.specs.Scripts.{script}
use Rattle.board_work.specs.Plans.{plan_of}
use Rattle.board_words.proofs.opening.rows_of.Given as goal

abbrev pub invariant-loop-s : goal.invariant-loop-s
invariant-loop-s l = (length l.rows ≡ l.s) × ((x : ℕ) → x < l.s → (length (slice_index_or l.rows x []) ≤ 256) × ((y : ℕ) → times y (slice_index_or l.rows x []) ≡ (script (plan_of l.plan)).edge x y))
