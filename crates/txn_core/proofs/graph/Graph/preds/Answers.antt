-- What the check of `Graph::preds` leaves to show.
use Rattle.std.proofs.Common.{◌<◌, ℕ, List, [], length, sym, ◌∙◌, ap, subst, arith}
use Rattle.std.specs.List.{All, slice_index_or}
use Rattle.std.proofs.lemmas.List.{get_or_default}
use Rattle.txn_core.proofs.graph.Graph.preds.Goals as goal

pub returns-clause-earlier : goal.returns-clause-earlier
returns-clause-earlier c =
    let lists = c.as_slice.result.now in
    let within : c.args.t < length lists = omega (arith, c.requires, ap length c.as_slice.ensures, ap (λ g. length g.preds) c.self.view_is) in
    let is = c.as_slice-2.ensures ∙ c.index-as_slice-t.is ∙ get_or_default lists c.args.t c.index-as_slice-t.result [] within ∙ ap (λ l. slice_index_or l c.args.t []) c.as_slice.ensures in
    let Earlier : List ℕ → Type 0 = All (λ p. p < c.args.t) in
    subst Earlier (sym is) (c.self.invariant.earlier c.args.t (omega (arith, within, ap length c.as_slice.ensures)))
