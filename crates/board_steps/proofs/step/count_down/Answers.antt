-- What the check of `count_down` leaves to show.
use Rattle.std.proofs.Common.{arith, sym}
use Rattle.board_steps.specs.Abouts.{scripted}
use Rattle.board_core.proofs.Steps.{counts_down}
use Rattle.board_steps.proofs.step.count_down.Goals as goal

pub fetch_sub-requires : goal.fetch_sub-requires
fetch_sub-requires g c =
    let words = c.args.words.now in
    let seat = c.args.seat.now in
    let p = scripted words.key in
    let e = c.requires.place.0 in
    let d = c.requires.place.1 in
    (c.requires.seat.0, omega arith, rw (sym e, sym d) (counts_down p words.table_id.slots seat.id seat.me c.args.s c.args.t c.requires.seat.1 c.requires.edge.0 c.requires.edge.1 c.requires.edge.2))
