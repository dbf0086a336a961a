-- What the check of `Frame::held_txn` leaves to show.
use Rattle.std.proofs.Common.{◌∙◌, ap, length, arith}
use Rattle.board_steps.specs.Abouts.{told}
use Rattle.board_words.proofs.Filling.{txn_there}
use Rattle.board_frame.proofs.FrameFacts.{plan_is}
use Rattle.board_frame.proofs.frame.Frame.held_txn.Goals as goal

pub bounds-as_slice-t : goal.bounds-as_slice-t
bounds-as_slice-t c =
    let l = c.holds.ensures.place in
    let e = ap length (c.as_slice.ensures ∙ c.self.invariant.3.0) in
    let v = ap (λ z. length z.txns) (plan_is _ _ c.self.view_is) in omega arith

pub returns : goal.returns
returns c = txn_there c.as_slice.result.now (told c.args.self.now.about) c.args.t c.index-as_slice-t.result (c.as_slice.ensures ∙ (c.self.invariant.3.0 ∙ ap (λ z. z.txns) (plan_is _ _ c.self.view_is))) c.holds.ensures.place c.index-as_slice-t.is
