-- What the check of `play` leaves to show.
use Rattle.std.proofs.Common.{List, [], refl, subst, arith}
use Rattle.txn_types.specs.declared.event.Event.{Event}
use Rattle.txn_core.specs.MeantTable.{table_of}
use Rattle.txn_core.specs.States.{state_of}
use Rattle.world_laws.specs.Worlds.{HasBursts, setting_with}
use Rattle.input_doc.specs.Held.{input_of}
use Rattle.command_text.proofs.WorldLemmas.{can_take, few_configs, few_txns, pieces_lawful}
use Rattle.command_text.proofs.text.play.Goals as goal

pub new-requires-clause-admitted : goal.new-requires-clause-admitted
new-requires-clause-admitted g c = pieces_lawful (input_of c.args.input.now) c.args.agreed.now.admitted c.requires.lawful c.requires.admitted

pub new-requires-clause-txns : goal.new-requires-clause-txns
new-requires-clause-txns g c = few_txns (input_of c.args.input.now) c.args.agreed.now.blocks c.requires.lawful c.requires.agreed

pub new-requires-clause-configs : goal.new-requires-clause-configs
new-requires-clause-configs g c = few_configs (input_of c.args.input.now) c.args.agreed.now.blocks c.requires.lawful c.requires.agreed

pub run-requires-clause-events : goal.run-requires-clause-events
run-requires-clause-events g c κs within =
    let e = c.in_ok-world.ensures in
    can_take (input_of c.args.input.now) c.args.input.now.table c.in_ok-world.world c.args.agreed.now.admitted c.as_slice.result.now refl c.requires.lawful
    e.ground.0 e.ground.1 c.requires.admitted e.ground.2 e.none.0 e.none.1 e.none.2 c.as_slice.ensures

pub returns-clause-bursts : goal.returns-clause-bursts
returns-clause-bursts g c =
    let input = c.args.input.now in
    let s = setting_with (table_of input.table) (state_of input.genesis) c.args.agreed.now.blocks c.args.agreed.now.admitted input.faulty in
    let new = c.in_ok-world.ensures in
    subst (λ (events : List Event). HasBursts c.args.workers c.in_ok-world-2.world s events) c.as_slice.ensures
    (c.in_ok-world-2.ensures.follows.bursts c.args.workers (omega arith) (state_of input.genesis) s [] new.stands (new.bursts c.args.workers s))
