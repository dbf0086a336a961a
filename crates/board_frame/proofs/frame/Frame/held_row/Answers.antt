-- What the check of `Frame::held_row` leaves to show.
use Rattle.std.proofs.Common.{subst}
use Rattle.board_steps.specs.Abouts.{told}
use Rattle.board_words.specs.Filled.{AreRows}
use Rattle.board_frame.proofs.FrameFacts.{plan_is, row_there}
use Rattle.board_frame.proofs.frame.Frame.held_row.Goals as goal

pub returns : goal.returns
returns c =
    let rows = subst (λ z. AreRows z c.self.inside.rows) (plan_is _ _ c.self.view_is) c.self.invariant.6 in
    let row = row_there (told c.args.self.now.about) c.args.t c.self.inside.rows c.as_slice.result.now c.index-as_slice-t.result c.as_slice-2.result.now rows c.as_slice.ensures c.as_slice-2.ensures c.index-as_slice-t.is c.holds.ensures.place in
    record { short = row.0; edges = row.1 }
