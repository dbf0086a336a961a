-- What the check of `Graph::has_pred` leaves to show.
use Rattle.std.proofs.Common.{◌∙◌, ℕ, List, ap}
use Rattle.oxii_defs.specs.State.{contains}
use Rattle.txn_core.proofs.SearchLemmas.{searched_is}
use Rattle.txn_core.proofs.graph.Graph.has_pred.Goals as goal

pub returns : goal.returns
returns c = record {
  pred =
      c.is_ok.ensures.value ∙ searched_is c.preds.result.now c.args.s c.binary_search.result c.preds.ensures.rising c.binary_search.ensures.position
      ∙ ap (λ (l : List ℕ). contains l c.args.s) c.preds.ensures.list;
}
