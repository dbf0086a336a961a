-- What the check of `Earlier::preds` leaves to show.
use Rattle.std.proofs.Common.{◌<◌, length, [], sym, ap, ◌∙◌, arith}
use Rattle.std.specs.List.{slice_index_or}
use Rattle.std.proofs.lemmas.List.{length-take-le}
use Rattle.oxii_defs.specs.Dependency.{graph_of}
use Rattle.txn_core.specs.Touching.{Part}
use Rattle.txn_core.proofs.GraphLemmas.{list_at}
use Rattle.txn_core.proofs.TouchLemmas.{named_before}
use Rattle.txn_core.proofs.earlier.Earlier.preds.Goals as goal

pub invariant_of-result : goal.invariant_of-result
invariant_of-result c =
    let e = c.self.inside in (
      omega (arith, length-take-le e.count e.txns.now c.self.invariant.1, c.self.invariant.0, c.self.invariant.1),
      omega arith,
      named_before e.touches.readers.words e.touches.writers.words e.count e.txns.now c.args.kind (slice_index_or e.txns.now e.count c.index-self-count.result) c.named.result
          c.self.invariant.1 c.self.invariant.0 c.self.invariant.2 c.named.ensures,
    )

pub returns : goal.returns
returns c =
    let e = c.self.inside in
    let within : e.count < length e.txns.now = omega (arith, c.requires, ap (λ (p : Part). length p.txns) c.self.view_is, ap (λ (p : Part). p.count) c.self.view_is) in
    sym (list_at c.args.kind e.txns.now e.count c.index-self-count.result within)
    ∙ ap (λ (p : Part). slice_index_or (graph_of c.args.kind p.txns) p.count []) c.self.view_is
