-- What the check of `Frame::finish` leaves to show.
use Rattle.std.proofs.Common.{◌≡◌, ap, sym, subst}
use Rattle.board_core.specs.Passes.{IsHeld, Ends}
use Rattle.board_frame.specs.Seen.{Seen, home_of, state_of_view, pass_state}
use Rattle.board_work.specs.PassStates.{Home, Ended, Evaluation}
use Rattle.board_frame.proofs.StateFacts.{held_is, ended_is}
use Rattle.board_frame.proofs.frame.Frame.finish.Goals as goal

pub finish_at-requires-clause-held : goal.finish_at-requires-clause-held
finish_at-requires-clause-held c = subst (IsHeld c.args.pass.now.view) (sym (ap (λ (e : Evaluation). e.position) c.evaluated.view_is))
    (held_is (home_of c.args.pass.now.table c.args.pass.now.about) c.args.pass.now.view c.args.evaluated.position c.requires.held)

pub returns : goal.returns
returns c =
    let old : Seen = c.args.pass.now in
    let new : Seen = c.finish_at.new.pass in
    let home : Home = home_of c.args.self.now.table c.args.self.now.about in
    let t = c.args.evaluated.position in
    let of = c.finish_at.ensures.of in
    let h_old = c.requires.of in
    let h_new : home_of new.table new.about ≡ home = (λ i. record { id = of.table i; plan = of.plan i }) in
    let ends = subst (λ x. Ends x old.view new.view c.finish_at.new.made) (ap (λ (e : Evaluation). e.position) c.evaluated.view_is) c.finish_at.ensures.ends in
    record {
      ended = subst (λ h. Ended t (state_of_view h old.view) (pass_state new) c.finish_at.new.made) (sym h_old)
          (subst (λ h. Ended t (state_of_view home old.view) (state_of_view h new.view) c.finish_at.new.made) (sym h_new) (ended_is home t old.view new.view c.finish_at.new.made ends c.finish_at.ensures.made_own));
    }
