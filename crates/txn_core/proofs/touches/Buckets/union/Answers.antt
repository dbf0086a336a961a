-- What the check of `Buckets::union` leaves to show.
use Rattle.std.proofs.Common.{ℕ, List, get_or, subst, ap, arith}
use Rattle.std.proofs.lemmas.List.{take_all}
use Rattle.txn_core.specs.Touching.{Unites}
use Rattle.txn_core.proofs.TouchLemmas.{unites_more}
use Rattle.txn_core.proofs.touches.Buckets.union.Goals as goal

pub loop-number-preserved : goal.loop-number-preserved
loop-number-preserved c =
    unites_more c.args.self.now.words c.args.records.now c.args.word c.loop-number.all _ c.loop-number.number-index 0 (omega arith)
    (ap (λ p. get_or c.args.self.now.words p 0) c.word_place.ensures.place) c.loop-number.invariant

pub returns : goal.returns
returns c =
    let Are : List ℕ → Type 0 = λ records. Unites c.args.self.now.words records c.args.word c.loop-number.all in
    subst Are (take_all c.loop-number.number-index c.args.records.now (omega arith)) c.loop-number.invariant
