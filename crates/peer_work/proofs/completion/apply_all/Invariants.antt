-- What each turn of the loops of `apply_all` keeps.
use Rattle.std.proofs.Common.{◌≡◌, length, drop}
use Rattle.node_defs.specs.Ledger.{after_outcomes}
use Rattle.txn_core.specs.States.{state_of}
use Rattle.peer_work.proofs.completion.apply_all.Given as goal

abbrev pub invariant-loop-t : goal.invariant-loop-t
invariant-loop-t l = record {
  length : length l.values ≡ length l.fn.values;
  state : after_outcomes (state_of l.values) (drop l.t l.txns) (drop l.t l.outcomes) ≡ after_outcomes (state_of l.fn.values) l.txns l.outcomes;
}
