-- What each turn of the loops of `read_all` keeps.
use Rattle.board_defs.specs.Closure.{is_own}
use Rattle.board_work.specs.Scripts.{outcome_at}
use Rattle.std.proofs.Common.{cond, ◌≡◌, ◌<◌, ◌≤◌, ℕ, None, length, slice_index_or}
use Rattle.board_steps.specs.Abouts.{told}
use Rattle.board_words.proofs.reading.read_all.Given as goal

abbrev pub invariant-loop-t : goal.invariant-loop-t
invariant-loop-t l = (length l.outcomes ≡ length (told l.about).txns) × ((t : ℕ) → t < l.t → slice_index_or l.outcomes t None ≡ cond (is_own (told l.about) t) (outcome_at (told l.about) t) None) × ((t : ℕ) → l.t ≤ t → slice_index_or l.outcomes t None ≡ None)
