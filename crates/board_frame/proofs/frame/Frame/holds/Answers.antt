-- What the check of `Frame::holds` leaves to show.
use Rattle.board_steps.specs.Abouts.{told}
use Rattle.board_frame.proofs.FrameFacts.{held_below, held_comes, settled_by}
use Rattle.board_frame.proofs.frame.Frame.holds.Goals as goal

pub returns : goal.returns
returns c =
    let plan = told c.args.self.now.about in
    let h = c.stands.ensures.lawful in
    let settled = settled_by plan _ c.args.pass.now.view c.requires.of.plan c.stands-2.ensures.settled in
    record { place = held_below plan c.args.pass.now.view c.args.t h settled c.requires.held; few = h.few; comes = held_comes plan c.args.pass.now.view c.args.t h settled c.requires.held; runs = settled.runs c.args.t c.requires.held.begun }
