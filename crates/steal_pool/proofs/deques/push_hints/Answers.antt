-- What the check of `push_hints` leaves to show.
use Rattle.std.proofs.Common.{◌<◌, get_or, List, ℕ, subst}
use Rattle.board_core.specs.Counts.{times}
use Rattle.steal_pool.proofs.HintMoves.{pushes, all_one, stands_in}
use Rattle.steal_pool.proofs.deques.push_hints.Goals as goal

pub push_as-requires-clause-pushes : goal.push_as-requires-clause-pushes
push_as-requires-clause-pushes g c =
    let list = c.list-t-items.result.now in
    let t = get_or list c.loop-t.t-index 0 in
    pushes g.F.OwnFlags.own _ _ _ (all_one g.F.OwnFlags.own t (c.requires t (subst (λ (l : List ℕ). 0 < times t l) c.list-t-items.ensures (stands_in list c.loop-t.t-index c.loop-t-test.true))))
