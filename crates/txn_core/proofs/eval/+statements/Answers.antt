-- What the check of the functions that call each other leaves to show.
use Rattle.std.proofs.Common.{length, sym, ◌∙◌, arith}
use Rattle.std.proofs.lemmas.List.{length-append}
use Rattle.std.proofs.Math.ListN.{length-set}
use Rattle.txn_core.specs.Meant.{stmt_of}
use Rattle.txn_core.specs.Forms.{after-Repeat, slots-If, slots-Repeat, depth-Let, depth-SetLocal, weight-If, weight-Repeat}
use Rattle.txn_core.proofs.RunLemmas.{slots_at, weight_at, all_step, all_done, depth_grows}
use Rattle.txn_core.proofs.eval.+statements.Goals as goal

pub run_statement-block-requires : goal.run_statement-block-requires
run_statement-block-requires t c =
    rw c.as_slice.ensures (omega (arith, weight-If _ _ _ _ c.in-If.is), (c.requires.inputs, (slots-If _ _ _ _ _ c.requires.slots c.in-If.is).0))

pub run_statement-block-requires-else-branch-2 : goal.run_statement-block-requires-else-branch-2
run_statement-block-requires-else-branch-2 t c =
    rw c.as_slice-else-branch-2.ensures (omega (arith, weight-If _ _ _ _ c.in-If.is), (c.requires.inputs, (slots-If _ _ _ _ _ c.requires.slots c.in-If.is).1))

pub run_statement-repeat-requires : goal.run_statement-repeat-requires
run_statement-repeat-requires t c =
    rw c.as_slice-in-Repeat.ensures (omega (arith, weight-Repeat _ _ _ c.in-Repeat.is), (c.requires.inputs, slots-Repeat _ _ _ _ c.requires.slots c.in-Repeat.is))

pub run_statement-returns-in-Repeat-clause-meaning : goal.run_statement-returns-in-Repeat-clause-meaning
run_statement-returns-in-Repeat-clause-meaning t c = rw (c.in-Repeat.is, after-Repeat) (rw c.as_slice-in-Repeat.ensures at c.repeat.ensures.meaning)

pub run-run_statement-requires : goal.run-run_statement-requires
run-run_statement-requires t c = (
  omega (arith, weight_at _ _ _ c.loop-stmt-test.true c.stmt-item.is),
  (c.requires.inputs, (slots_at _ _ _ _ c.loop-stmt-test.true c.stmt-item.is c.loop-stmt.invariant.1).0),
)

pub run-loop-stmt-preserved : goal.run-loop-stmt-preserved
run-loop-stmt-preserved t c =
    let here = slots_at _ _ _ _ c.loop-stmt-test.true c.stmt-item.is c.loop-stmt.invariant.1 in (
      all_step _ _ _ _ _ _ c.loop-stmt-test.true c.stmt-item.is c.in_ok-run_statement.ensures.meaning ∙ c.loop-stmt.invariant.0,
      rw c.in_ok-run_statement.ensures.depth (here.1),
      omega (arith, c.in_ok-run_statement.ensures.depth, c.loop-stmt.invariant.2, depth_grows (length c.loop-stmt.scratch.locals) (stmt_of c.stmt-item.result)),
    )

pub run-returns-clause-meaning : goal.run-returns-clause-meaning
run-returns-clause-meaning t c = sym c.loop-stmt.invariant.0 ∙ all_done _ _ _ _ c.loop-stmt-test.false

pub run_statement-returns-in_ok-v-in-Let-clause-depth : goal.run_statement-returns-in_ok-v-in-Let-clause-depth
run_statement-returns-in_ok-v-in-Let-clause-depth t c = rw (c.push_local.ensures, c.in-Let.is, depth-Let) (length-append _ _)

pub run_statement-returns-in_ok-v-in-SetLocal-clause-depth : goal.run_statement-returns-in_ok-v-in-SetLocal-clause-depth
run_statement-returns-in_ok-v-in-SetLocal-clause-depth t c = rw (c.set_local.ensures, c.in-SetLocal.is, depth-SetLocal) (length-set _ _ _)
