-- What the check of `all_peers` leaves to show.
use Rattle.std.specs.Prelude.{◌≡◌, ◌<◌, ◌+◌, ◌++◌, ◌∷◌, [], suc, length, map}
use Rattle.std.proofs.Common.{sym, ◌∙◌, ap, subst, arith}
use Rattle.txn_types.specs.Rising.{IsRising}
use Rattle.node_defs.specs.World.{count_from}
use Rattle.peer_core.proofs.CountLemmas.{count_long, count_up, rises}
use Rattle.peer_core.proofs.voters.all_peers.Goals as goal

pub add-requires : goal.add-requires
add-requires c =
    let p = c.loop-p.p in
    let room : length c.loop-p.all < 16 = omega (arith, c.requires, c.loop-p-test.true, ap length c.loop-p.invariant, count_long 0 p) in
    (omega arith, (room, subst (λ xs. IsRising (map (λ x. x) xs)) (count_up p ∙ ap (λ xs. xs ++ p ∷ []) (sym c.loop-p.invariant)) (rises 0 (suc p))))

pub loop-p-preserved : goal.loop-p-preserved
loop-p-preserved c =
    let p = c.loop-p.p in
    let e : suc p ≡ p + 1 = omega arith in
    c.add.ensures ∙ (ap (λ xs. xs ++ p ∷ []) c.loop-p.invariant ∙ (sym (count_up p) ∙ ap (count_from 0) e))
