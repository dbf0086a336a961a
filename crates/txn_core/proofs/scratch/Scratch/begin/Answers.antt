-- What the check of `Scratch::begin` leaves to show.
use Rattle.std.proofs.Common.{[]}
use Rattle.txn_core.proofs.WrittenLemmas.{none_written}
use Rattle.txn_core.proofs.scratch.Scratch.begin.Goals as goal

pub returns : goal.returns
returns c = rw c.copy-self-inside.ensures
    (let none = none_written c.args.writes.now 16 c.as_slice-known.ensures.room in
    λ i. record { writes = c.args.writes.now; locals = []; written = none i })
