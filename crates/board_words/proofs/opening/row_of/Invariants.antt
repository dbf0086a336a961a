-- What each turn of the loops of `row_of` keeps.
use Rattle.std.proofs.Common.{◌≡◌, ◌<◌, ◌≤◌, ℕ, length}
use Rattle.board_core.specs.Counts.{times}
use Rattle.board_work.specs.Scripts.{script}
use Rattle.board_work.specs.Plans.{plan_of}
use Rattle.board_words.proofs.opening.row_of.Given as goal

abbrev pub invariant-loop-t : goal.invariant-loop-t
invariant-loop-t l = (length l.row ≤ l.t) × ((y : ℕ) → y < l.t → times y l.row ≡ (script (plan_of l.plan)).edge l.s y) × ((y : ℕ) → l.t ≤ y → times y l.row ≡ 0)
