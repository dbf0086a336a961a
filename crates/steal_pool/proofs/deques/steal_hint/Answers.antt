-- What the check of `steal_hint` leaves to show.
use Rattle.steal_pool.proofs.HintMoves.{takes, admits}
use Rattle.steal_pool.proofs.deques.steal_hint.Goals as goal

pub pass-pass-requires : goal.pass-pass-requires
pass-pass-requires g c = admits g.F.OwnFlags.own

pub steal_as-requires-clause-takes : goal.steal_as-requires-clause-takes
steal_as-requires-clause-takes g c = takes g.F.OwnFlags.own _ _ 1
