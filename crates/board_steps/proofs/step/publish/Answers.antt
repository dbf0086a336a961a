-- What the check of `publish` leaves to show.
use Rattle.std.proofs.Common.{arith, sym}
use Rattle.board_steps.specs.Abouts.{scripted}
use Rattle.board_core.proofs.CellSteps.{publishes}
use Rattle.board_steps.proofs.step.publish.Goals as goal

pub swap-requires : goal.swap-requires
swap-requires g c =
    let words = c.args.words.now in
    let seat = c.args.seat.now in
    let p = scripted words.key in
    let e = c.requires.place.0 in
    let d = c.requires.place.1 in
    (c.requires.seat.0, omega arith, rw (sym e, sym d, c.requires.part.2) (publishes p words.table_id.slots seat.id seat.me c.args.t c.args.k c.requires.seat.1 c.requires.held.0 c.requires.held.1 c.requires.part.0 c.requires.unset))
