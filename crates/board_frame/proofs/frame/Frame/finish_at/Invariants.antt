-- What each turn of the loops of `Frame::finish_at` keeps.
use Rattle.board_frame.proofs.frame.Frame.finish_at.Given as goal

abbrev pub ghosts-finish_stamp : goal.ghosts-finish_stamp
ghosts-finish_stamp a = record { from = a.t; to = a.begin }
