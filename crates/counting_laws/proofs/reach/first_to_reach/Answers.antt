-- What the check of `first_to_reach` leaves to show.
use Rattle.std.proofs.Common.{◌≡◌, ◌<◌, ◌+◌, length, sym, ◌∙◌, arith, ◌&&◌, take, count_by}
use Rattle.std.proofs.lemmas.Bool.{both_ways}
use Rattle.counting_laws.proofs.Reaching.{nothing_more, reached_here}
use Rattle.counting_laws.proofs.reach.first_to_reach.Goals as goal
use Rattle.counting_laws.proofs.reach.first_to_reach.Goals.{then-counts+else-same-from, else-counts}

pub returns-then-same-from-clause-reached : goal.returns-then-same-from-clause-reached
returns-then-same-from-clause-reached g c =
    let es = c.args.entries.now in
    let i = c.loop-i.i in
    let below : i < length es = omega arith in
    let e = c.index-entries-i.result in
    let counts = g.T.Tally.counts c.args.tally.now in
    let content = g.T.Tally.content in
    let eq = g.T.Content.PartialEq.eq in
    let same : c.count_same-same.result ≡ count_by (λ x. counts x && eq (content e) (content x)) (take (i + 1) es) = c.count_same-same.ensures in
    let full : c.count_same-same.result ≡ c.args.count = omega arith in
    sym (reached_here content counts eq c.args.count es i e below c.index-entries-i.is c.loop-i.invariant (sym c.counts.ensures ∙ c.if-counts.true) (sym same ∙ full))

pub loop-i-preserved : goal.loop-i-preserved
loop-i-preserved g c =
    let es = c.args.entries.now in
    let i = c.loop-i.i in
    let below : i < length es = omega arith in
    let e = c.index-entries-i.result in
    let counts = g.T.Tally.counts c.args.tally.now in
    let content = g.T.Tally.content in
    let eq = g.T.Content.PartialEq.eq in
    nothing_more content counts eq c.args.count es i e below c.index-entries-i.is c.loop-i.invariant
    (elim c.if-counts.branch [
      | then-counts+else-same-from w ↦ (λ yes full.
          let same : w.count_same-same.result ≡ count_by (λ x. counts x && eq (content e) (content x)) (take (i + 1) es) = w.count_same-same.ensures in
          w.if-same-from.false (same ∙ (full ∙ sym w.from.ensures)))
      | else-counts w ↦ (λ yes full. both_ways _ (sym c.counts.ensures ∙ w.if-counts.false) yes)
    ])
