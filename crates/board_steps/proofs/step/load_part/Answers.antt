-- What the check of `load_part` leaves to show.
use Rattle.std.proofs.Common.{arith}
use Rattle.board_steps.specs.Abouts.{scripted}
use Rattle.board_core.proofs.CellSteps.{loads_part}
use Rattle.board_steps.proofs.step.load_part.Goals as goal

pub load-requires : goal.load-requires
load-requires g c =
    let words = c.args.words.now in
    let seat = c.args.seat.now in
    (c.requires.seat.0, omega arith, rw c.requires.place.0 (loads_part (scripted words.key) words.table_id.slots seat.id seat.me c.args.x c.args.t c.args.k c.requires.seat.1 c.requires.held c.requires.part.0 c.requires.set))
