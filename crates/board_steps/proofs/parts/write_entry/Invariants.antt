-- What each turn of the loops of `write_entry` keeps.
use Rattle.board_steps.proofs.parts.write_entry.Given as goal

abbrev pub ghosts-write_value : goal.ghosts-write_value
ghosts-write_value a = record { from = a.t; to = a.r }
