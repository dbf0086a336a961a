-- What the check of `put` leaves to show.
use Rattle.txn_core.proofs.StateLemmas.{state_of-set}
use Rattle.txn_core.proofs.serial.put.Goals as goal

pub returns-in-Some-clause-state : goal.returns-in-Some-clause-state
returns-in-Some-clause-state c = rw (c.in-Some.is, c.set.ensures) (state_of-set _ _ _ c.requires.place)
