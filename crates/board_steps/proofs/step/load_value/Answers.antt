-- What the check of `load_value` leaves to show.
use Rattle.std.proofs.Common.{arith, ◌+◌, ◌*◌, ap, sym, subst}
use mathlib.Core.Option.{none}
use Rattle.atomic_table.specs.Table.{step, Allows}
use Rattle.board_core.specs.Rule.{Holds}
use Rattle.board_core.specs.Script.{Script, serial_value}
use Rattle.board_core.specs.Steps.{LoadsValue}
use Rattle.board_work.specs.Scripts.{script, script_of}
use Rattle.board_steps.specs.Abouts.{told}
use Rattle.board_core.proofs.CellSteps.{loads_value}
use Rattle.board_steps.proofs.step.load_value.Goals as goal

pub load-requires : goal.load-requires
load-requires g c =
    let words = c.args.words.now in
    let seat = c.args.seat.now in
    let p = script (told words.key) in
    let i = 2 * c.args.r + 2 in (
      c.requires.seat.0,
      omega arith,
      rw c.requires.place.0 (subst (λ (q : Script). Allows (Holds q) words.table_id.slots seat.id seat.me i (λ n. n) (LoadsValue (serial_value p c.args.t c.args.r) (step words.table_id.slots i 0 0 none) seat.me))
          (ap (λ layout. script_of layout (told words.key)) (sym c.requires.layout))
          (loads_value p words.table_id.slots seat.id seat.me c.args.t c.args.r c.requires.seat.1 c.requires.held.0 c.requires.held.1 c.requires.held.2 c.requires.uses)),
    )
