-- One turn of the loop is one item of `each`.
use Rattle.std.proofs.Common.{◌≡◌, map, [], ◌∷◌, ◌++◌, ap, ◌∙◌, arith, length-append}
use Rattle.std.proofs.lemmas.List.{map-append}
use Rattle.std.proofs.lemmas.Result.{err_from_is_err_and}
use Rattle.serde_json.specs.View.{view}
use Rattle.txn_core.specs.MeantTable.{app_of}
use Rattle.contract_text.specs.Verdict.{verdict}
use Rattle.doc_forms.specs.declared.fault.Step.TheVariants.{Index}
use Rattle.doc_forms.specs.Check.{within}
use Rattle.doc_forms.specs.Answers.{Gives}
use Rattle.doc_forms.proofs.Steps.{goes_on, fails_here, ended, gives_up}
use Rattle.doc_tables.specs.Apps.{app_in, next_app}
use Rattle.doc_tables.proofs.Turns.{turn_fails, turn_ok}
use Rattle.doc_tables.proofs.apps.each_app.Goals as goal
use Rattle.doc_tables.proofs.apps.each_app.Goals.{After-at_item}

-- what the item's check gave
item_check : (c : After-at_item) → Gives app_of c.at_item.result (within (Index c.loop-item.item-index) (app_in verdict c.args.peers.now (map app_of c.loop-item.done) (view c.item-item.result)))
item_check c = rw (← c.loop-item.invariant.index, ← c.as_slice.ensures) (gives_up app_of (Index c.loop-item.i) c.app_in.result c.at_item.result _ c.app_in.ensures c.at_item.ensures)

pub returns-in_err-app : goal.returns-in_err-app
returns-in_err-app c = let p = err_from_is_err_and c.from_residual.result c.from_residual.ensures.1 in
    rw (p.1, p.2) (fails_here (next_app verdict c.args.peers.now) c.loop-item.item-index (map app_of c.loop-item.done) c.args.list.now c.item-item.result _ _ c.loop-item-test.true c.item-item.is
    (turn_fails (Index c.loop-item.item-index) c.args.peers.now (map app_of c.loop-item.done) (view c.item-item.result) _ (rw c.in_err-app.was at (item_check (goal.at.returns-in_err-app c).After-at_item))) c.loop-item.invariant.left)

pub loop-item-preserved : goal.loop-item-preserved
loop-item-preserved c =
    let pushed : c.push.new.self ≡ c.loop-item.done ++ c.in_ok-app.app ∷ [] = c.in_ok-push.ensures.ok in
    let seen : map app_of c.push.new.self ≡ map app_of c.loop-item.done ++ app_of c.in_ok-app.app ∷ [] = ap (map app_of) pushed ∙ map-append app_of c.loop-item.done (c.in_ok-app.app ∷ []) in
    let next = turn_ok (Index c.loop-item.item-index) c.args.peers.now (map app_of c.loop-item.done) (view c.item-item.result) (app_of c.in_ok-app.app) (rw c.in_ok-app.was at (item_check (goal.at.loop-item-preserved c).After-at_item)) in
    record {
      index = omega arith;
      count = rw (pushed, length-append) (omega arith);
      left = rw seen (goes_on (next_app verdict c.args.peers.now) c.loop-item.item-index (map app_of c.loop-item.done) _ c.args.list.now c.item-item.result _ c.loop-item-test.true c.item-item.is next c.loop-item.invariant.left);
    }

pub returns : goal.returns
returns c = ended (next_app verdict c.args.peers.now) c.loop-item.item-index (map app_of c.loop-item.done) c.args.list.now _ (omega arith) c.loop-item.invariant.left
