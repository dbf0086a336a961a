-- What the check of `Table::app` leaves to show.
use Rattle.txn_core.proofs.TableNames.{app_name_at, app_ops_at}
use Rattle.txn_core.proofs.table.Table.app.Goals as goal

pub returns-clause-name : goal.returns-clause-name
returns-clause-name c = app_name_at _ _ _ _ c.as_slice.ensures c.index-as_slice-app.is c.requires

pub returns-clause-ops : goal.returns-clause-ops
returns-clause-ops c = app_ops_at _ _ _ _ c.as_slice.ensures c.index-as_slice-app.is c.requires
