-- What each turn of the loops of `config_of` keeps.
use Rattle.std.proofs.Common.{◌≡◌, drop}
use Rattle.node_defs.specs.Sayings.{config_named}
use Rattle.message_pool.proofs.sayings.config_of.Given as goal

abbrev pub invariant-loop-i : goal.invariant-loop-i
invariant-loop-i l = record {
  left : config_named l.pieces (drop l.i-index l.i-items) ≡ config_named l.pieces l.items;
  same : l.i-items ≡ l.items;
}
