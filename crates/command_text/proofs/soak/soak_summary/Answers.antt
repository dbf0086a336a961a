-- What the check of `soak_summary` leaves to show.
use Rattle.input_doc.specs.Held.{input_of}
use Rattle.command_text.proofs.SoakWorlds.{soak_world}
use Rattle.command_text.proofs.soak.soak_summary.Goals as goal

pub soak_report-requires-clause-world : goal.soak_report-requires-clause-world
soak_report-requires-clause-world g c =
    let agreed = c.in_ok-agreed in
    soak_world c.args.seed c.args.txns (input_of c.in_ok-input.input) c.as_slice.result.now c.in_ok-world.world agreed.agreed.blocks agreed.agreed.admitted c.in_ok-input.ensures.made
    c.as_slice.ensures agreed.ensures.blocks agreed.ensures.admitted c.in_ok-world.ensures.stands
