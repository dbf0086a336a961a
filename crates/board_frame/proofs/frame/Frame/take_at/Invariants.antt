-- What each turn of the loops of `Frame::take_at` keeps.
use Rattle.board_steps.specs.Abouts.{scripted}
use Rattle.board_frame.proofs.frame.Frame.take_at.Given as goal

abbrev pub ghosts-load_need : goal.ghosts-load_need
ghosts-load_need a = record { position = a.t; script = scripted a.words.now.key }

abbrev pub ghosts-swap_turn : goal.ghosts-swap_turn
ghosts-swap_turn a = record { position = a.t; script = scripted a.words.now.key }

abbrev pub ghosts-begin_stamp : goal.ghosts-begin_stamp
ghosts-begin_stamp a = record { position = a.t; script = scripted a.words.now.key }
