-- What the check of `first_from` leaves to show.
use Rattle.std.proofs.Common.{◌+◌, ◌∷◌, cond, drop, ap, sym, ◌∙◌, arith}
use Rattle.std.proofs.lemmas.List.{get_or_default}
use Rattle.oxii_defs.specs.Dependency.{depends, preds_from}
use Rattle.txn_core.proofs.GraphLemmas.{preds_more, preds_past}
use Rattle.txn_core.proofs.TouchLemmas.{preds_passed}
use Rattle.txn_core.proofs.earlier.first_from.Goals as goal
use Rattle.txn_core.proofs.earlier.first_from.Goals.{else-place-earlier-via-then-place-earlier+else-depends, else-place-earlier-via-else-place-earlier}

pub returns-then-depends-clause-found : goal.returns-then-depends-clause-found
returns-then-depends-clause-found c =
    let kind = c.args.kind in
    let later = c.args.later.now in
    let earlier = c.args.earlier.now in
    let place = c.skip-place.result in
    let rest = preds_from kind later (place + 1) (drop (place + 1) earlier) in
    c.loop-next.invariant
    ∙ preds_passed kind later earlier c.args.words.now c.loop-next.next place c.requires.named c.skip-place.ensures.later c.skip-place.ensures.passed
    ∙ preds_more kind later earlier place c.index-earlier-place.result (omega arith)
    ∙ ap (λ b. cond b (place ∷ rest) rest) (ap (λ t. depends kind t later) (sym c.index-earlier-place.is) ∙ (sym c.depends.ensures ∙ c.if-depends.true))

pub loop-next-preserved : goal.loop-next-preserved
loop-next-preserved c =
    let kind = c.args.kind in
    let later = c.args.later.now in
    let earlier = c.args.earlier.now in
    let place = c.skip-place.result in
    c.loop-next.invariant
    ∙ preds_passed kind later earlier c.args.words.now c.loop-next.next place c.requires.named c.skip-place.ensures.later c.skip-place.ensures.passed
    ∙ preds_past kind later earlier place (elim c.else-place-earlier.branch [
      | else-place-earlier-via-then-place-earlier+else-depends w ↦ λ lt.
          ap (λ t. depends kind t later) (get_or_default earlier place later w.index-earlier-place.result lt ∙ sym w.index-earlier-place.is) ∙ (sym w.depends.ensures ∙ w.if-depends.false)
      | else-place-earlier-via-else-place-earlier w ↦ λ lt. absurd (omega (arith, lt))
    ])
