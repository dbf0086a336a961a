-- What the check of `commits` leaves to show.
use Rattle.std.proofs.Common.{rules, arith}
use Rattle.std.specs.List.{count_by}
use Rattle.std.proofs.lemmas.Grind.{common_steps}
use Rattle.soak_text.specs.Summary.{is_commit}
use Rattle.soak_text.proofs.Counts.{counted_all, counted_more}
use Rattle.soak_text.proofs.ledger_counts.commits.Goals as goal

pub loop-i-preserved : goal.loop-i-preserved
loop-i-preserved c = (
  counted_more (count_by is_commit) c.args.ledger.now c.loop-i.i c.outcomes.result.now c.as_slice.result.now c.loop-i.count c.commits_of.result
      (omega (arith, c.loop-i-test.true, c.len-i-end.ensures.len)) c.outcomes.ensures c.as_slice.ensures c.commits_of.ensures c.loop-i.invariant.0,
  first_of (search rules, grind (arith, common_steps)),
)

pub returns : goal.returns
returns c = counted_all (count_by is_commit) c.args.ledger.now c.loop-i.i c.loop-i.count (omega (arith, c.loop-i-test.false, c.len-i-end.ensures.len)) c.loop-i.invariant.0
