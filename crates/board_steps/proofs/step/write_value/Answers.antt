-- What the check of `write_value` leaves to show.
use Rattle.std.proofs.Common.{arith, ◌+◌, ◌*◌, ap, sym, subst}
use mathlib.Core.Option.{none}
use Rattle.atomic_table.specs.Table.{step, Allows}
use Rattle.board_core.specs.Rule.{Holds}
use Rattle.board_core.specs.Script.{Script}
use Rattle.board_core.specs.Steps.{Puts, writing}
use Rattle.board_work.specs.Scripts.{script, script_of}
use Rattle.board_steps.specs.Abouts.{told}
use Rattle.board_core.proofs.CellSteps.{writes}
use Rattle.board_steps.proofs.step.write_value.Goals as goal

pub swap-requires : goal.swap-requires
swap-requires g c =
    let words = c.args.words.now in
    let seat = c.args.seat.now in
    let p = script (told words.key) in
    let i = 2 * c.args.r + 2 in
    let e = c.requires.place.0 in
    let d = c.requires.place.1 in (
      c.requires.seat.0,
      omega arith,
      rw (sym e, sym d) (subst (λ (q : Script). Allows (Holds q) words.table_id.slots seat.id seat.me i (λ _. c.args.value) (Puts (writing c.args.t c.args.r) (step words.table_id.slots i c.args.value 0 none) seat.me))
          (ap (λ layout. script_of layout (told words.key)) (sym c.requires.layout))
          (writes p words.table_id.slots seat.id seat.me c.args.t c.args.r c.args.value c.requires.seat.1 c.requires.held.0 c.requires.held.1 c.requires.published c.requires.meant)),
    )
