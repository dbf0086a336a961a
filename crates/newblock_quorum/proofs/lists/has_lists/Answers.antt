-- What the check of `has_lists` leaves to show.
use Rattle.std.proofs.Common.{[], arith, length, sym, ◌<◌, ◌∙◌}
use Rattle.std.proofs.lemmas.Bool.{not-false}
use Rattle.std.proofs.lemmas.List.{get_or_default}
use Rattle.node_defs.proofs.SameLemmas.{same_number_decides, same_list_decides}
use Rattle.newblock_quorum.proofs.GraphLists.{next_list}
use Rattle.newblock_quorum.proofs.lists.has_lists.Goals as goal

pub loop-t-preserved : goal.loop-t-preserved
loop-t-preserved c =
    let lists = c.args.lists.now in
    let preds = c.args.graph.now.preds in
    let t = c.loop-t.t in
    let inside : t < length lists = omega arith in
    let same = (same_list_decides same_number_decides _ _).0 (not-false _ (sym c.ne.ensures ∙ c.if-ne.false)) in
    let here = get_or_default lists t [] c.index-lists-t.result inside ∙ (sym c.index-lists-t.is ∙ (sym c.as_slice.ensures ∙ (same ∙ c.preds.ensures.list))) in
    record { same = c.loop-t.invariant.same; left = next_list lists preds t inside (omega arith) here c.loop-t.invariant.left }
