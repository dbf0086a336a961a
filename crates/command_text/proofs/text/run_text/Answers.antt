-- What the check of `run_text` leaves to show.
use Rattle.std.proofs.Common.{ap, sym}
use Rattle.txn_core.specs.MeantTable.{table_of}
use Rattle.txn_core.specs.States.{state_of}
use Rattle.world_laws.specs.Worlds.{setting_with}
use Rattle.input_doc.specs.Held.{input_of}
use Rattle.command_text.proofs.WorldLemmas.{run_text_of}
use Rattle.command_text.proofs.text.run_text.Goals as goal

pub returns : goal.returns
returns g c =
    let input = c.args.input.now in
    let agreed = c.in_ok-agreed in
    let s = setting_with (table_of input.table) (state_of input.genesis) agreed.agreed.blocks agreed.agreed.admitted input.faulty in
    let world = c.in_ok-world in
    let printed = c.in_ok-text.ensures (state_of input.genesis) s input.schedule (sym c.len-count.ensures) world.ensures.stands in
    record {
      text = run_text_of c.args.workers c.args.trace c.args.evidence (input_of input) c.as_slice.result.now agreed.agreed.blocks agreed.agreed.admitted agreed.agreed.rejected c.in_ok-text.text printed.0 printed.1 world.world
          (ap table_of world.ensures.table) c.as_slice.ensures agreed.ensures.blocks agreed.ensures.admitted agreed.ensures.rejected printed.2 world.ensures.bursts printed.3 printed.4;
    }
