-- What the check of `read_document` leaves to show.
use Rattle.std.proofs.Common.{List, subst, sym}
use Rattle.std.specs.List.{All}
use Rattle.txn_types.specs.declared.stream.Item.{Item}
use Rattle.oxii_defs.specs.Table.{Table}
use Rattle.oxii_defs.specs.Lawful.{IsLawfulTable}
use Rattle.node_defs.specs.LawfulItems.{IsLawfulItem}
use Rattle.input_doc.proofs.TablesLawful.{table_is_lawful, items_are_lawful}
use Rattle.input_doc.proofs.reader.read_document.Goals as goal

pub read_faulty_schedule-requires-clause-table : goal.read_faulty_schedule-requires-clause-table
read_faulty_schedule-requires-clause-table c = subst (λ (table : Table). IsLawfulTable table) (sym c.in_ok-table.ensures.table) (table_is_lawful _ _ _ c.in_ok-tables.ensures)

pub read_faulty_schedule-requires-clause-items : goal.read_faulty_schedule-requires-clause-items
read_faulty_schedule-requires-clause-items c =
    let lawful = (items_are_lawful _ _ _ _ c.in_ok-tables.ensures c.in_ok-items.ensures).0 in
    subst (λ (table : Table). All (IsLawfulItem table) c.as_slice.result.now) (sym c.in_ok-table.ensures.table) (rw c.as_slice.ensures lawful)
