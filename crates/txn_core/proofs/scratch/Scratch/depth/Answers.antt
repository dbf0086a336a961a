-- What the check of `Scratch::depth` leaves to show.
use Rattle.std.proofs.Common.{arith}
use Rattle.std.proofs.lemmas.List.{length-take}
use Rattle.txn_core.proofs.scratch.Scratch.depth.Goals as goal

pub returns-clause-value : goal.returns-clause-value
returns-clause-value c = rw (← c.self.view_is, length-take) (omega arith)
