-- What each turn of the loops of `Frame::part_at` keeps.
use Rattle.board_steps.specs.Abouts.{told}
use Rattle.board_work.specs.Scripts.{outcome_at, word_of}
use Rattle.board_frame.proofs.frame.Frame.part_at.Given as goal

abbrev pub ghosts-load_part : goal.ghosts-load_part
ghosts-load_part a = record { found = word_of (outcome_at (told a.words.now.key) a.x) a.k }
