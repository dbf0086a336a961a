-- What the check of `waits_for` leaves to show.
use Rattle.std.proofs.Common.{◌≡◌, ◌∙◌, sym, ap, subst, length, arith, get_or, true, false, None}
use Rattle.std.specs.Prelude.{is_some}
use Rattle.board_work.specs.Plans.{plan_of}
use Rattle.txn_core.proofs.GraphLemmas.{length-graph_of}
use Rattle.board_words.proofs.Filling.{known_is_at}
use Rattle.board_words.proofs.Opens.{edge_stands, waits_is}
use Rattle.board_words.proofs.opening.waits_for.Goals as goal

pub has_pred-requires : goal.has_pred-requires
has_pred-requires c = let e = ap length c.requires.planned.graph ∙ length-graph_of c.args.plan.now.table.now.kind c.args.plan.now.block.now.txns in omega (arith, c.requires.places.1)

pub returns : goal.returns
returns c =
    let plan = plan_of c.args.plan.now in
    let own = subst (λ fs. get_or fs c.args.t false ≡ true) c.as_slice.ensures c.if-not-as_slice-t.false in
    let long = c.requires.planned.lawful.known_long in
    let e = ap length c.as_slice-2.ensures in
    let known = known_is_at c.as_slice-2.result.now c.args.s c.index-as_slice-s.result (omega (arith, c.requires.places.0)) c.index-as_slice-s.is ∙ ap (λ ks. get_or ks c.args.s None) c.as_slice-2.ensures in
    let un = ap is_some (sym known) ∙ (sym c.is_some.ensures ∙ c.if-is_some.false) in
    c.has_pred.ensures.pred ∙ (edge_stands plan c.args.plan.now.graph.now.preds c.args.s c.args.t c.requires.planned.graph c.requires.places.0 c.requires.places.1 ∙ sym (waits_is plan c.args.s c.args.t own un))
