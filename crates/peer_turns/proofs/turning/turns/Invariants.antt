-- What each turn of the loops of `turns` keeps.
use Rattle.std.proofs.Common.{◌≡◌, ◌-◌, ◌^◌, ℕ, length}
use Rattle.oxii_defs.specs.State.{State}
use Rattle.node_defs.specs.Log.{Letter, Log}
use Rattle.peer_turns.specs.Peers.{IsWellKept, peer_of}
use Rattle.peer_turns.specs.Relation.{MidwayAt}
use Rattle.peer_turns.proofs.turning.turns.Given as goal

abbrev pub invariant-loop-more : goal.invariant-loop-more
invariant-loop-more g l = record {
  kept : IsWellKept (peer_of l.table l.desk);
  me : l.desk.me ≡ l.fn.desk.me;
  midway : (genesis : State) (me m : ℕ) (e : Letter) (K : Log) → MidwayAt l.workers genesis me m e K (peer_of l.table l.fn.desk) l.fn.sent l.fn.spans → (k : ℕ) × MidwayAt l.workers genesis me k e K (peer_of l.table l.desk) l.sent l.spans;
}

abbrev pub decreases-loop-more : goal.decreases-loop-more
decreases-loop-more g l = 2 ^ 63 - length l.desk.ledger
