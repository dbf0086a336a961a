-- What each turn of the loops of `read_one` keeps.
use Rattle.std.proofs.Common.{◌≡◌, ◌≤◌, length, take}
use Rattle.board_steps.specs.Abouts.{told}
use Rattle.board_work.specs.Scripts.{outcome_at}
use Rattle.board_words.specs.Words.{cells_of}
use Rattle.board_words.proofs.reading.read_one.Given as goal

abbrev pub invariant-loop-k : goal.invariant-loop-k
invariant-loop-k l = (l.cells ≡ take l.k (cells_of (outcome_at (told l.about) l.t))) × (length l.cells ≤ l.k)
