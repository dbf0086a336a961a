-- What each turn of the loops of `all_peers` keeps.
use Rattle.std.proofs.Common.{◌≡◌}
use Rattle.node_defs.specs.World.{count_from}
use Rattle.peer_core.proofs.voters.all_peers.Given as goal

abbrev pub invariant-loop-p : goal.invariant-loop-p
invariant-loop-p l = l.all ≡ count_from 0 l.p
