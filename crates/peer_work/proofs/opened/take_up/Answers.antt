-- What the check of `take_up` leaves to show.
use Rattle.newblock_quorum.specs.Entries.{blocks_of}
use Rattle.txn_core.specs.MeantTable.{table_of}
use Rattle.peer_work.proofs.Openings.{well_opened}
use Rattle.peer_work.proofs.opened.take_up.Goals as goal

pub returns-clause-well : goal.returns-clause-well
returns-clause-well c =
    let e = c.in-Some.ensures in
    well_opened (table_of c.args.table.now) c.args.ledger.now (blocks_of c.args.inbox.now.entries) c.in_ok-opened.opened _ _ c.len-n.result c.len-n.result c.tip-tip.result c.args.inbox.now.kind
    c.requires.blocks e.held c.in_ok-opened.ensures.block c.in_ok-opened.ensures.graph c.in_ok-opened.ensures.fresh c.len-n.ensures.len e.number c.tip-tip.ensures.tip e.linked e.graph e.kind c.requires.kind
