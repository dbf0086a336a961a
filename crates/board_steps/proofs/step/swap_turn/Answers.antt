-- What the check of `swap_turn` leaves to show.
use Rattle.std.proofs.Common.{arith, ◌<◌, subst}
use Rattle.board_core.specs.Counts.{times}
use Rattle.board_steps.specs.Abouts.{scripted}
use Rattle.board_core.proofs.Steps.{swaps}
use Rattle.board_steps.proofs.step.swap_turn.Goals as goal

pub swap-requires : goal.swap-requires
swap-requires g c =
    let words = c.args.words.now in
    let seat = c.args.seat.now in
    let p = scripted words.key in
    let t = c.requires.place.0 in
    (c.requires.seat.0, omega arith, rw t (swaps p words.table_id.slots seat.id seat.me g.J.Position.position c.requires.seat.1 (subst (λ x. 0 < times x seat.me.0.ready) t c.requires.ready)))
