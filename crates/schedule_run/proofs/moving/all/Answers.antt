-- What the check of `all` leaves to show.
use Rattle.std.specs.Prelude.{◌≡◌, ◌∷◌, [], length, false}
use Rattle.std.proofs.Common.{sym, ap, subst, arith}
use Rattle.txn_types.specs.declared.event.Event.TheVariants as event
use Rattle.world_laws.specs.Shown.{IsReached, Moves}
use Rattle.world_laws.specs.Worlds.{Follows, IsWellKept, KeptWorld}
use Rattle.world_laws.proofs.Moving.{follows_moved, moved, well_moved, written_back}
use Rattle.schedule_run.specs.Scenes.{world_of}
use Rattle.schedule_run.proofs.moving.all.Goals as goal

pub give_all-requires-clause-reached : goal.give_all-requires-clause-reached
give_all-requires-clause-reached g c κs within =
    let b = c.args.basis.now in
    let s = c.args.scene.now in
    (b.faulty, s.falses, s.items, subst (λ ps. IsReached b.table.now b.faulty s.pool ps s.falses s.items) (sym c.as_mut_slice.ensures.value) c.requires.kept.reached)

pub returns-clause-kept : goal.returns-clause-kept
returns-clause-kept g c =
    let s = c.args.scene.now in
    let k = c.in_ok-give_all.ensures in
    let w : KeptWorld = world_of c.args.basis.now s in
    let peers2 = c.give_all.new.peers in
    let n : s.peers.len ≡ length peers2 = omega (arith, c.as_mut_slice.ensures.len, ap length c.as_mut_slice.ensures.value, k.count, c.requires.kept.count) in
    let moves = subst (λ ps. Moves w.table c.args.workers event.All false s.pool ps s.bursts c.give_all.new.pool peers2 c.give_all.new.bursts) c.as_mut_slice.ensures.value k.moves in
    subst (λ ps. IsWellKept (moved w c.give_all.new.pool s.idle ps c.give_all.new.bursts)) (sym (written_back s.peers.len peers2 s.peers.items n))
    (well_moved w c.args.workers event.All false c.give_all.new.pool s.idle peers2 c.give_all.new.bursts tt k.lawful k.of_table k.count moves c.requires.kept)

pub returns-clause-follows : goal.returns-clause-follows
returns-clause-follows g c =
    let s = c.args.scene.now in
    let k = c.in_ok-give_all.ensures in
    let w : KeptWorld = world_of c.args.basis.now s in
    let peers2 = c.give_all.new.peers in
    let n : s.peers.len ≡ length peers2 = omega (arith, c.as_mut_slice.ensures.len, ap length c.as_mut_slice.ensures.value, k.count, c.requires.kept.count) in
    let moves = subst (λ ps. Moves w.table c.args.workers event.All false s.pool ps s.bursts c.give_all.new.pool peers2 c.give_all.new.bursts) c.as_mut_slice.ensures.value k.moves in
    subst (λ ps. Follows c.args.workers w (event.All ∷ []) (moved w c.give_all.new.pool s.idle ps c.give_all.new.bursts)) (sym (written_back s.peers.len peers2 s.peers.items n))
    (follows_moved w c.args.workers event.All false c.give_all.new.pool peers2 c.give_all.new.bursts tt moves)
