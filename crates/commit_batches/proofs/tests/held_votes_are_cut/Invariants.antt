-- What each turn of the loops of `held_votes_are_cut` keeps.
use Rattle.commit_batches.specs.Held.{IsFor}
use Rattle.commit_batches.proofs.tests.held_votes_are_cut.Given as goal

abbrev pub invariant-loop-t : goal.invariant-loop-t
invariant-loop-t g l = IsFor l.holder 7
