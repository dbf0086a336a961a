-- What each turn of the loops of `judge_all` keeps.
use Rattle.std.proofs.Common.{◌≡◌, [], drop, length}
use Rattle.xov_mode.specs.Verdicts.{judged}
use Rattle.xov_mode.specs.Writers.{AreWriters}
use Rattle.xov_mode.proofs.judging.judge_all.Given as goal

abbrev pub invariant-loop-t : goal.invariant-loop-t
invariant-loop-t l = record {
  same : judged l.txns l.outcomes l.verdicts (drop l.t l.txns) ≡ judged l.txns l.outcomes [] l.txns;
  size : length l.verdicts ≡ l.t;
  writers : AreWriters l.writers l.txns l.outcomes l.verdicts;
}
