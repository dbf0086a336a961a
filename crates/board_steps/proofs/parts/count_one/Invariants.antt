-- What each turn of the loops of `count_one` keeps.
use Rattle.board_steps.proofs.parts.count_one.Given as goal

abbrev pub ghosts-count_down : goal.ghosts-count_down
ghosts-count_down a = record { from = a.s; to = a.t }
