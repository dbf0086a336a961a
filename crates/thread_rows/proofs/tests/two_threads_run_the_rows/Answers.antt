-- What the check of `two_threads_run_the_rows` leaves to show.
use denote.Param.Send.{IsSync, sendable}
use denote.Param.SendFields.{declared_sync}
use Rattle.growing_list.proofs.growing.GrowingList.TheSendSync as growing-sync
use Rattle.txn_types.proofs.rising.RisingList.TheSendSync as rising-sync
use Rattle.txn_types.proofs.fixed.FixedList.TheSendSync as fixed-sync
use Rattle.txn_types.proofs.values.Values.TheSendSync as values-sync
use Rattle.txn_core.proofs.graph.Graph.TheSendSync as graph-sync
use Rattle.txn_core.proofs.TableSync.{table_sync}
use Rattle.txn_types.specs.contracts.block.Block as block
use Rattle.txn_types.specs.contracts.block.Config as config
use Rattle.txn_types.specs.contracts.txn.Txn as txn
use Rattle.txn_types.specs.contracts.txn.Outcome as outcome
use Rattle.txn_core.specs.contracts.graph.Graph as graph
use Rattle.txn_types.specs.contracts.values.Values as values
use Rattle.board_settings.specs.contracts.settings.Setting as setting
use Rattle.thread_rows.proofs.tests.two_threads_run_the_rows.Goals as goal

txn_sync : IsSync txn.the_row
txn_sync = search (sendable, rising-sync.the_sync, fixed-sync.the_sync) depth 20

config_sync : IsSync config.the_row
config_sync = search (sendable, rising-sync.the_sync) depth 20

block_sync : IsSync block.the_row
block_sync = search (sendable, growing-sync.the_sync, txn_sync, config_sync) depth 20

graph_sync : IsSync graph.the_row
graph_sync = search (sendable, graph-sync.the_sync) depth 12

values_sync : IsSync values.the_row
values_sync = search (sendable, values-sync.the_sync) depth 12

outcome_sync : IsSync outcome.the_row
outcome_sync = search (sendable, fixed-sync.the_sync) depth 20

setting_sync : IsSync setting.the_row
setting_sync = declared_sync setting.the_type
    (table_sync, (values_sync, (block_sync, (graph_sync, (search (sendable, growing-sync.the_sync, outcome_sync) depth 12, (search (sendable, growing-sync.the_sync) depth 12, tt))))))

pub in_two_threads-requires-sync-T : goal.in_two_threads-requires-sync-T
in_two_threads-requires-sync-T g c κs = search (sendable, setting_sync) depth 6
