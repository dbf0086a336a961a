-- What the check of the functions that call each other leaves to show.
use Rattle.std.proofs.Common.{arith, ap, sym, ◌∙◌}
use Rattle.txn_core.specs.Meant.{stmt_of, stmts_of}
use Rattle.txn_core.specs.Slots.{weights}
use Rattle.txn_core.specs.Forms.{weight-If, weight-Repeat}
use Rattle.txn_core.proofs.CheckStepLemmas.{weight_pos, weights_at, all_none, rest_is, after_first}
use Rattle.txn_core.proofs.check.+checks.Goals as goal

pub all_fine-fine-requires : goal.all_fine-fine-requires
all_fine-fine-requires t c = (omega (arith, weights_at _ _ c.in-len1-up.len_at_least c.first-item.is), tt)

pub all_fine-fine_after-requires : goal.all_fine-fine_after-requires
all_fine-fine_after-requires t c = (omega (arith, weights_at _ _ c.in-len1-up.len_at_least c.first-item.is, weight_pos (stmt_of c.first-item.result), ap (λ l. weights (stmts_of l)) (rest_is c.args.body.now)), tt)

pub all_fine-returns-in-empty-clause-verdict : goal.all_fine-returns-in-empty-clause-verdict
all_fine-returns-in-empty-clause-verdict t c = all_none _ _ _ _ c.in-empty.len_below

pub fine-all_fine-requires : goal.fine-all_fine-requires
fine-all_fine-requires t c = rw c.as_slice.ensures (omega (arith, weight-If _ _ _ _ c.in-If.is), tt)

pub fine-all_fine-requires-in-If : goal.fine-all_fine-requires-in-If
fine-all_fine-requires-in-If t c = rw c.as_slice-in-If.ensures (omega (arith, weight-If _ _ _ _ c.in-If.is), tt)

pub fine-repeated-requires : goal.fine-repeated-requires
fine-repeated-requires t c = rw c.as_slice-in-Repeat.ensures (omega (arith, weight-Repeat _ _ _ c.in-Repeat.is), tt)

pub all_fine-returns-else-not-branch-clause-verdict : goal.all_fine-returns-else-not-branch-clause-verdict
all_fine-returns-else-not-branch-clause-verdict t c =
    after_first _ _ _ _ _ c.in-len1-up.len_at_least c.first-item.is (sym c.in_ok-fine-in-len1-up.ensures.verdict ∙ c.if-not-branch.false) c.fine_after.result
    (rw (rest_is c.args.body.now, c.in_ok-fine-in-len1-up.ensures.visible) at c.fine_after.ensures.verdict)
