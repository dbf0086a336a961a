-- What the check of `Frame::close` leaves to show.
use Rattle.std.proofs.Common.{◌∙◌}
use Rattle.board_frame.proofs.StateFacts.{open_none, positions_told}
use Rattle.board_frame.proofs.frame.Frame.close.Goals as goal

pub close_frame-requires-clause-free : goal.close_frame-requires-clause-free
close_frame-requires-clause-free c = open_none c.args.pass.view.begins c.args.pass.view.finishes c.requires.free

pub returns-clause-positions : goal.returns-clause-positions
returns-clause-positions c = positions_told c.close_frame.result.trace ∙ c.close_frame.ensures.trace.trace.one_each

pub returns-clause-trace : goal.returns-clause-trace
returns-clause-trace c = record { same = c.close_frame.ensures.trace.same; workers = c.close_frame.ensures.workers }

pub returns-clause-closed : goal.returns-clause-closed
returns-clause-closed c = record { outcomes_are = c.close_frame.ensures.outcomes; trace = c.close_frame.ensures.trace.trace }
