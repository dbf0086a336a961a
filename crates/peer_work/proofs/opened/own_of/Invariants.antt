-- What each turn of the loops of `own_of` keeps.
use Rattle.std.proofs.Common.{◌≡◌, ◌<◌, ℕ, false, length, get_or}
use Rattle.known_defs.specs.Known.{txn_at}
use Rattle.node_defs.specs.Rules.{Rules}
use Rattle.node_defs.specs.Position.{is_agent}
use Rattle.peer_parts.specs.InForce.{IsForce}
use Rattle.peer_work.proofs.opened.own_of.Given as goal

abbrev pub invariant-loop-t : goal.invariant-loop-t
invariant-loop-t l = record {
  long : length l.own ≡ l.t;
  own : (r : Rules) → IsForce r l.force → (u : ℕ) → u < l.t → get_or l.own u false ≡ is_agent r l.me (txn_at l.block.txns u);
}
