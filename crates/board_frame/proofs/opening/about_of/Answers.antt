-- What the check of `about_of` leaves to show.
use Rattle.txn_core.specs.MeantTable.{table_of}
use Rattle.txn_core.specs.States.{state_of}
use Rattle.board_frame.proofs.opening.about_of.Goals as goal

pub returns-clause-plan : goal.returns-clause-plan
returns-clause-plan c = (λ i. record { table = table_of (c.of.ensures i); txns = c.of-2.ensures i; base = state_of (c.of-5.ensures i); known = c.of-3.ensures i; own = c.of-4.ensures i })
