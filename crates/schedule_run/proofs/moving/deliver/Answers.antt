-- What the check of `deliver` leaves to show.
use Rattle.std.specs.Prelude.{◌≡◌, ◌∷◌, [], length}
use Rattle.std.proofs.Common.{sym, ap, subst, arith}
use Rattle.txn_types.specs.declared.event.Event.TheVariants as event
use Rattle.world_laws.specs.Shown.{Moves}
use Rattle.world_laws.specs.Worlds.{Follows, IsWellKept, KeptWorld}
use Rattle.world_laws.proofs.Moving.{follows_moved, moved, well_moved, written_back}
use Rattle.schedule_run.specs.Scenes.{world_of}
use Rattle.schedule_run.proofs.moving.deliver.Goals as goal

pub returns-clause-kept : goal.returns-clause-kept
returns-clause-kept g c =
    let s = c.args.scene.now in
    let k = c.in_ok-idly.ensures in
    let e = event.Deliver c.args.msg c.args.to in
    let w : KeptWorld = world_of c.args.basis.now s in
    let peers2 = c.give_one.new.peers in
    let n : s.peers.len ≡ length peers2 = omega (arith, c.as_mut_slice.ensures.len, ap length c.as_mut_slice.ensures.value, k.count, c.requires.kept.count) in
    let moves = subst (λ ps. Moves w.table c.args.workers e c.in_ok-idly.idly s.pool ps s.bursts c.give_one.new.pool peers2 c.give_one.new.bursts) c.as_mut_slice.ensures.value k.moves in
    subst (λ ps. IsWellKept (moved w c.give_one.new.pool c.idles-scene.result ps c.give_one.new.bursts)) (sym (written_back s.peers.len peers2 s.peers.items n))
    (well_moved w c.args.workers e c.in_ok-idly.idly c.give_one.new.pool c.idles-scene.result peers2 c.give_one.new.bursts c.requires.to k.lawful k.of_table k.count moves c.requires.kept)

pub returns-clause-follows : goal.returns-clause-follows
returns-clause-follows g c =
    let s = c.args.scene.now in
    let k = c.in_ok-idly.ensures in
    let e = event.Deliver c.args.msg c.args.to in
    let w : KeptWorld = world_of c.args.basis.now s in
    let peers2 = c.give_one.new.peers in
    let n : s.peers.len ≡ length peers2 = omega (arith, c.as_mut_slice.ensures.len, ap length c.as_mut_slice.ensures.value, k.count, c.requires.kept.count) in
    let moves = subst (λ ps. Moves w.table c.args.workers e c.in_ok-idly.idly s.pool ps s.bursts c.give_one.new.pool peers2 c.give_one.new.bursts) c.as_mut_slice.ensures.value k.moves in
    subst (λ ps. Follows c.args.workers w (e ∷ []) (moved w c.give_one.new.pool c.idles-scene.result ps c.give_one.new.bursts)) (sym (written_back s.peers.len peers2 s.peers.items n))
    (subst (λ j. Follows c.args.workers w (e ∷ []) (moved w c.give_one.new.pool j peers2 c.give_one.new.bursts)) (sym c.idles-scene.ensures)
    (follows_moved w c.args.workers e c.in_ok-idly.idly c.give_one.new.pool peers2 c.give_one.new.bursts c.requires.to moves))
