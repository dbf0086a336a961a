-- What each turn of the loops of `+checks` keeps.
use Rattle.std.proofs.Common.{◌+◌, ◌*◌}
use Rattle.txn_core.specs.Meant.{stmt_of, stmts_of}
use Rattle.txn_core.specs.Slots.{weight, weights}
use Rattle.txn_core.proofs.check.+checks.Given as goal

-- the statements below, and then the order of the calls
abbrev pub decreases-fine : goal.decreases-fine
decreases-fine l = 4 * weight (stmt_of l.stmt.now)

abbrev pub decreases-repeated : goal.decreases-repeated
decreases-repeated l = 4 * weights (stmts_of l.body.now) + 2

abbrev pub decreases-all_fine : goal.decreases-all_fine
decreases-all_fine l = 4 * weights (stmts_of l.body.now) + 1

abbrev pub decreases-fine_after : goal.decreases-fine_after
decreases-fine_after l = 4 * weights (stmts_of l.rest.now) + 2
