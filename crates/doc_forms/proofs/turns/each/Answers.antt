-- One turn of the loop is one item of `each`.
use Rattle.std.proofs.Common.{arith}
use Rattle.std.proofs.lemmas.Result.{err_from_is_err_and}
use Rattle.serde_json.specs.View.{view}
use Rattle.doc_forms.specs.declared.fault.Step.TheVariants.{Index}
use Rattle.doc_forms.specs.Check.{within}
use Rattle.doc_forms.specs.Answers.{Gives}
use Rattle.doc_forms.proofs.Steps.{goes_on, fails_here, ended, gives_up}
use Rattle.doc_forms.proofs.turns.each.Given.{Over}
use Rattle.doc_forms.proofs.turns.each.Goals as goal
use Rattle.doc_forms.proofs.turns.each.Goals.{After-at_item}

-- what the item's check gave
item_check : (g : Over) (c : After-at_item g) → Gives (λ s. s) c.at_item.result (within (Index c.loop-item.item-index) (g.T.Turn.check c.args.turn.now c.loop-item.done (view c.item-item.result)))
item_check g c = rw (← c.loop-item.invariant.index) (gives_up (λ s. s) (Index c.loop-item.i) c.turn.result c.at_item.result _ c.turn.ensures c.at_item.ensures)

pub returns-in_err-done : goal.returns-in_err-done
returns-in_err-done g c = let p = err_from_is_err_and c.from_residual.result c.from_residual.ensures.1 in
    rw (p.1, p.2) (fails_here (g.T.Turn.check c.args.turn.now) c.loop-item.item-index c.loop-item.done c.args.list.now c.item-item.result _ _ c.loop-item-test.true c.item-item.is
    (rw c.in_err-done.was at (item_check g (goal.at.returns-in_err-done g c).After-at_item)) c.loop-item.invariant.left)

pub loop-item-preserved : goal.loop-item-preserved
loop-item-preserved g c = record {
  index = omega arith;
  left = goes_on (g.T.Turn.check c.args.turn.now) c.loop-item.item-index c.loop-item.done _ c.args.list.now c.item-item.result _ c.loop-item-test.true c.item-item.is
      (rw c.in_ok-done.was at (item_check g (goal.at.loop-item-preserved g c).After-at_item)) c.loop-item.invariant.left;
}

pub returns : goal.returns
returns g c = ended (g.T.Turn.check c.args.turn.now) c.loop-item.item-index c.loop-item.done c.args.list.now _ (omega arith) c.loop-item.invariant.left
