-- What the check of `Table::op_name` leaves to show.
use Rattle.std.proofs.Common.{arith, ap, length}
use Rattle.txn_core.proofs.TableNames.{op_name_at, op_count}
use Rattle.txn_core.proofs.table.Table.op_name.Goals as goal

pub bounds-as_slice-op : goal.bounds-as_slice-op
bounds-as_slice-op c = omega (arith, op_count _ _ c.app.ensures.ops, ap length c.as_slice.ensures, c.requires.op)

pub returns : goal.returns
returns c =
    op_name_at _ _ _ _ _ c.as_slice.ensures c.app.ensures.ops
    (omega (arith, op_count _ _ c.app.ensures.ops, c.requires.op))
