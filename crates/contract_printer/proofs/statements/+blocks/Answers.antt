-- What the check of the functions that call each other leaves to show.
use Rattle.std.proofs.Common.{arith, ap}
use Rattle.txn_core.specs.Meant.{stmt_of, stmts_of}
use Rattle.txn_core.specs.Slots.{weights}
use Rattle.txn_core.specs.Forms.{weight-If, weight-Repeat}
use Rattle.txn_core.proofs.CheckStepLemmas.{weight_pos, weights_at, rest_is}
use Rattle.contract_printer.proofs.Forms.{put_both}
use Rattle.contract_printer.proofs.Blocks.{none_written, none_else, some_else, first_written}
use Rattle.contract_printer.proofs.statements.+blocks.Goals as goal

pub put_else-returns-in-empty-clause-written : goal.put_else-returns-in-empty-clause-written
put_else-returns-in-empty-clause-written t c = none_else _ _ _ _ c.in-empty.len_below

pub put_else-returns-in_ok-put_mark-in-len1-up-clause-written : goal.put_else-returns-in_ok-put_mark-in-len1-up-clause-written
put_else-returns-in_ok-put_mark-in-len1-up-clause-written t c = rw (some_else _ _ _ c.in-len1-up.len_at_least) (rw c.in_ok-put_mark-in-len1-up.ensures at c.put_block.ensures.written)

pub put_stmt-put_block-requires : goal.put_stmt-put_block-requires
put_stmt-put_block-requires t c = rw c.as_slice-in-If-2.ensures (omega (arith, weight-If _ _ _ _ c.in-If.is), tt)

pub put_stmt-put_else-requires : goal.put_stmt-put_else-requires
put_stmt-put_else-requires t c = rw c.as_slice-in-If-3.ensures (omega (arith, weight-If _ _ _ _ c.in-If.is), tt)

pub put_stmt-put_block-requires-in-Repeat : goal.put_stmt-put_block-requires-in-Repeat
put_stmt-put_block-requires-in-Repeat t c = rw c.as_slice-in-Repeat.ensures (omega (arith, weight-Repeat _ _ _ c.in-Repeat.is), tt)

pub put_stmts-put_stmt-requires : goal.put_stmts-put_stmt-requires
put_stmts-put_stmt-requires t c = (omega (arith, weights_at _ _ c.in-len1-up.len_at_least c.first-item.is), tt)

pub put_stmts-put_after-requires : goal.put_stmts-put_after-requires
put_stmts-put_after-requires t c = (omega (arith, weights_at _ _ c.in-len1-up.len_at_least c.first-item.is, weight_pos (stmt_of c.first-item.result), ap (λ l. weights (stmts_of l)) (rest_is c.args.body.now)), tt)

pub put_stmts-returns-in-empty-clause-written : goal.put_stmts-returns-in-empty-clause-written
put_stmts-returns-in-empty-clause-written t c = none_written _ _ _ _ c.in-empty.len_below

pub put_stmts-returns-in_ok-put_stmt-in-len1-up-clause-written : goal.put_stmts-returns-in_ok-put_stmt-in-len1-up-clause-written
put_stmts-returns-in_ok-put_stmt-in-len1-up-clause-written t c =
    rw (first_written _ _ _ _ c.in-len1-up.len_at_least c.first-item.is, put_both, ← c.in_ok-put_stmt-in-len1-up.ensures.written)
    (rw (rest_is c.args.body.now, c.in_ok-put_stmt-in-len1-up.ensures.locals) at c.put_after.ensures.written)
