-- What the check of `burst` leaves to show.
use denote.Param.Send.{sendable}
use Rattle.txn_core.proofs.TableSync.{table_sync}
use Rattle.steal_pool.proofs.pool.burst.Goals as goal

pub run_hired-requires-sync-A : goal.run_hired-requires-sync-A
run_hired-requires-sync-A g c κs within = search (sendable, table_sync) depth 6
