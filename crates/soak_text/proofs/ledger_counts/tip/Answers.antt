-- What the check of `tip` leaves to show.
use Rattle.std.proofs.Common.{◌∙◌, ◌-◌, arith}
use Rattle.txn_core.specs.MeantTable.{table_of}
use Rattle.soak_text.proofs.Tips.{block_lawful, tip_is}
use Rattle.soak_text.proofs.ledger_counts.tip.Goals as goal

pub block_hash-requires : goal.block_hash-requires
block_hash-requires c =
    block_lawful (table_of c.args.table.now) c.args.ledger.now (c.len-count.result - 1) c.block.result.now (omega (arith, c.if-count-eq0.false, c.len-count.ensures.len)) c.block.ensures c.requires

pub returns-else-count-eq0 : goal.returns-else-count-eq0
returns-else-count-eq0 c = λ genesis.
    c.block_hash.ensures
    ∙ tip_is (table_of c.args.table.now) genesis c.args.ledger.now (c.len-count.result - 1) c.block.result.now (omega (arith, c.if-count-eq0.false, c.len-count.ensures.len)) c.block.ensures
