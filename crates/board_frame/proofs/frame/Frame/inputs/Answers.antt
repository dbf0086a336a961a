-- What the check of `Frame::inputs` leaves to show.
use Rattle.board_frame.specs.Seen.{home_of}
use Rattle.board_frame.proofs.StateFacts.{held_is}
use Rattle.board_frame.proofs.frame.Frame.inputs.Goals as goal

pub inputs_at-requires-clause-held : goal.inputs_at-requires-clause-held
inputs_at-requires-clause-held c = held_is (home_of c.args.pass.now.table c.args.pass.now.about) c.args.pass.now.view c.args.t c.requires.held
