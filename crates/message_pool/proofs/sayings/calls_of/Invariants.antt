-- What each turn of the loops of `calls_of` keeps.
use Rattle.std.proofs.Common.{◌≡◌, ◌++◌, drop}
use Rattle.node_defs.specs.Sayings.{txns_named}
use Rattle.message_pool.proofs.sayings.calls_of.Given as goal

abbrev pub invariant-loop-i : goal.invariant-loop-i
invariant-loop-i l = record {
  left : l.txns ++ txns_named l.pieces (drop l.i-index l.i-items) ≡ txns_named l.pieces l.items;
  same : l.i-items ≡ l.items;
}
