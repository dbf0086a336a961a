-- What the check of `begin_stamp` leaves to show.
use Rattle.std.proofs.Common.{arith, ◌≡◌, ◌<◌, subst}
use Rattle.board_core.specs.Counts.{times_first, times}
use Rattle.board_steps.specs.Abouts.{scripted}
use Rattle.board_core.proofs.Steps.{stamps_begin}
use Rattle.board_steps.proofs.step.begin_stamp.Goals as goal

pub fetch_add-requires : goal.fetch_add-requires
fetch_add-requires g c =
    let words = c.args.words.now in
    let seat = c.args.seat.now in
    let p = scripted words.key in
    let t = c.requires.place.0 in
    (c.requires.seat.0, omega arith, rw c.requires.place.1 (stamps_begin p words.table_id.slots seat.id seat.me g.J.Position.position c.requires.seat.1 (subst (λ x. 0 < times x seat.me.0.taken) t c.requires.taken.0) (subst (λ x. times_first x seat.me.0.begins ≡ 0) t c.requires.taken.1)))
