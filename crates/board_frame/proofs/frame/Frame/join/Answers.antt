-- What the check of `Frame::join` leaves to show.
use Rattle.std.proofs.Common.{◌≡◌, ◌∙◌, sym, ap}
use Rattle.board_frame.specs.Seen.{Seen, home_of, state_of_view}
use Rattle.board_work.specs.PassStates.{Home, joined_state}
use Rattle.board_frame.proofs.StateFacts.{joined_is}
use Rattle.board_frame.proofs.frame.Frame.join.Goals as goal

pub returns : goal.returns
returns c =
    let keep : Seen = c.args.keep in
    let other : Seen = c.args.other in
    let new : Seen = c.join_passes.result in
    let home : Home = home_of c.args.self.now.table c.args.self.now.about in
    let of = c.join_passes.ensures.of in
    let h_new : home_of new.table new.about ≡ home = (λ i. record { id = of.table i; plan = of.plan i }) in
    ap (λ h. state_of_view h new.view) h_new ∙ (joined_is home keep.view other.view new.view c.join_passes.ensures.joined c.requires.free.0 c.requires.free.1
    ∙ (λ i. joined_state (state_of_view (sym c.requires.of.0 i) keep.view) (state_of_view (sym c.requires.of.1 i) other.view)))
