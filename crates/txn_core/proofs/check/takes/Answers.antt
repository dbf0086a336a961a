-- What the check of `takes` leaves to show.
use Rattle.std.proofs.Common.{map}
use Rattle.txn_core.specs.Meant.{formal_of}
use Rattle.txn_core.proofs.CheckLemmas.{match_decides}
use Rattle.txn_core.proofs.check.takes.Goals as goal

pub returns : goal.returns
returns c = rw (c.match_all.ensures, c.as_slice.ensures, c.as_slice-2.ensures.items) (match_decides (map formal_of c.args.op.now.params) c.args.args.now)
