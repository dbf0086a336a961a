-- What the check of `place_of` leaves to show.
use Rattle.std.proofs.Common.{◌∙◌}
use Rattle.txn_core.proofs.WrittenLemmas.{position_is_place}
use Rattle.txn_core.proofs.scratch.place_of.Goals as goal

pub returns-clause-place : goal.returns-clause-place
returns-clause-place c = c.first_of.ensures.place ∙ position_is_place c.args.records.now c.args.number
