-- What the check of `load_need` leaves to show.
use Rattle.std.proofs.Common.{arith, ◌≡◌, subst}
use Rattle.board_steps.specs.Abouts.{scripted}
use Rattle.board_core.proofs.Steps.{loads}
use Rattle.board_steps.proofs.step.load_need.Goals as goal

pub load-requires : goal.load-requires
load-requires g c =
    let words = c.args.words.now in
    let seat = c.args.seat.now in
    let p = scripted words.key in
    let t = c.requires.place.0 in
    (c.requires.seat.0, omega arith, rw t (loads p words.table_id.slots seat.id seat.me g.J.Position.position c.requires.seat.1 (subst (λ x. p.own x ≡ _) t c.requires.own)))
