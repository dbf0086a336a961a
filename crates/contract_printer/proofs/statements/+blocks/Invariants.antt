-- What each turn of the loops of `+blocks` keeps.
use Rattle.std.proofs.Common.{◌+◌, ◌*◌}
use Rattle.txn_core.specs.Meant.{stmt_of, stmts_of}
use Rattle.txn_core.specs.Slots.{weight, weights}
use Rattle.contract_printer.proofs.statements.+blocks.Given as goal

-- the statements below, and then the order of the calls
abbrev pub decreases-put_stmt : goal.decreases-put_stmt
decreases-put_stmt l = 4 * weight (stmt_of l.stmt.now)

abbrev pub decreases-put_else : goal.decreases-put_else
decreases-put_else l = 4 * weights (stmts_of l.body.now) + 3

abbrev pub decreases-put_block : goal.decreases-put_block
decreases-put_block l = 4 * weights (stmts_of l.body.now) + 2

abbrev pub decreases-put_stmts : goal.decreases-put_stmts
decreases-put_stmts l = 4 * weights (stmts_of l.body.now) + 1

abbrev pub decreases-put_after : goal.decreases-put_after
decreases-put_after l = 4 * weights (stmts_of l.rest.now) + 2
