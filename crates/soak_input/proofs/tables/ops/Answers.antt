-- What the check of `ops` leaves to show.
use Rattle.std.proofs.Common.{map}
use Rattle.txn_core.specs.Meant.{op_of}
use Rattle.soak_input.proofs.PayMeant.{memory_alone, pay_alone}
use Rattle.soak_input.proofs.tables.ops.Goals as goal

pub memory_wanted-requires : goal.memory_wanted-requires
memory_wanted-requires c = memory_alone c.in-Err.fault c.in-Err.ensures.exact

pub returns-in-Ok : goal.returns-in-Ok
returns-in-Ok c = pay_alone (map op_of c.in-Ok.contract.ops) c.in-Ok.ensures.contract
