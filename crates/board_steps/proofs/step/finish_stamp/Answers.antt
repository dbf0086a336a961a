-- What the check of `finish_stamp` leaves to show.
use Rattle.std.proofs.Common.{arith, sym}
use Rattle.board_steps.specs.Abouts.{scripted}
use Rattle.board_core.proofs.Steps.{stamps_finish}
use Rattle.board_steps.proofs.step.finish_stamp.Goals as goal

pub fetch_add-requires : goal.fetch_add-requires
fetch_add-requires g c =
    let words = c.args.words.now in
    let seat = c.args.seat.now in
    let p = scripted words.key in
    let e = c.requires.place.0 in
    let d = c.requires.place.1 in
    (c.requires.seat.0, omega arith, rw (sym e, sym d) (stamps_finish p words.table_id.slots seat.id seat.me c.args.t c.args.begin c.requires.seat.1 c.requires.held.1 c.requires.held.2 c.requires.published c.requires.written))
