-- What the check of `push_ledger` leaves to show.
use Rattle.std.proofs.Common.{◌∙◌, ap, length, arith}
use Rattle.report_text.proofs.LineSteps.{goes_on}
use Rattle.report_text.proofs.Entries.{lawful_block, whole_block, entries_next}
use Rattle.report_text.proofs.peer.push_ledger.Goals as goal

pub push_entry_lines-requires-clause-lawful : goal.push_entry_lines-requires-clause-lawful
push_entry_lines-requires-clause-lawful c = lawful_block c.args.ledger.now c.loop-i.i c.block.result.now c.outcomes-outcomes.result.now (omega arith) c.block.ensures c.outcomes-outcomes.ensures _ c.requires

pub push_entry_lines-requires-clause-whole : goal.push_entry_lines-requires-clause-whole
push_entry_lines-requires-clause-whole c =
    ap length c.as_slice.ensures ∙ whole_block c.args.ledger.now c.loop-i.i c.block.result.now c.outcomes-outcomes.result.now (omega arith) c.block.ensures c.outcomes-outcomes.ensures _ c.requires

pub loop-i-preserved : goal.loop-i-preserved
loop-i-preserved c =
    goes_on _ _ _ _ _ _ c.loop-i.invariant
    (entries_next c.args.ledger.now c.loop-i.i c.block.result.now c.as_slice.result.now (omega arith) c.block.ensures (rw c.as_slice.ensures c.outcomes-outcomes.ensures) _)
    c.in_ok-push_entry_lines.ensures
