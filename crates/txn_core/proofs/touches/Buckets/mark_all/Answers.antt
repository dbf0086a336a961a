-- What the check of `Buckets::mark_all` leaves to show.
use Rattle.std.proofs.Common.{ℕ, List, subst, arith}
use Rattle.std.specs.List.{All}
use Rattle.std.proofs.lemmas.List.{take_all}
use Rattle.txn_core.specs.Touching.{IsMarked}
use Rattle.txn_core.proofs.TouchLemmas.{marked_more}
use Rattle.txn_core.proofs.touches.Buckets.mark_all.Goals as goal

pub loop-number-preserved : goal.loop-number-preserved
loop-number-preserved c = record {
  kept = λ k b set. c.mark.ensures.kept k b (c.loop-number.invariant.kept k b set);
  marked =
      marked_more c.loop-number.self.words c.mark.new.self.words c.args.position c.args.records.now c.loop-number.number-index 0 (omega arith)
      c.mark.ensures.kept c.mark.ensures.marked c.loop-number.invariant.marked;
}

pub returns-clause-marked : goal.returns-clause-marked
returns-clause-marked c =
    let Are : List ℕ → Type 0 = All (IsMarked c.loop-number.self.words c.args.position) in
    subst Are (take_all c.loop-number.number-index c.args.records.now (omega arith)) c.loop-number.invariant.marked
