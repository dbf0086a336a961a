-- What the check of `give_all` leaves to show.
use Rattle.std.specs.Prelude.{◌≡◌, ◌<◌, suc, ◌+◌, length}
use Rattle.std.proofs.Common.{subst, arith}
use Rattle.world_laws.proofs.Turns.{AllUpTo, turns_all, turns_left, turns_more}
use Rattle.schedule_run.proofs.each.give_all.Goals as goal

pub loop-m-smaller : goal.loop-m-smaller
loop-m-smaller g c =
    let r = c.requires.reached in
    let l : c.loop-m.m < length c.loop-m.pool = omega (arith, c.loop-m-test.true, c.len.ensures) in
    omega (arith, turns_left c.args.table.now r.0 c.args.workers r.1 r.2 c.args.pool.now c.args.peers.now c.args.bursts.now c.loop-m.m c.loop-m.pool c.loop-m.peers c.loop-m.bursts r.3 l c.loop-m.invariant)

pub loop-m-preserved : goal.loop-m-preserved
loop-m-preserved g c =
    let e : suc c.loop-m.m ≡ c.loop-m.m + 1 = omega arith in
    let k = c.in_ok-give_each.ensures in
    let r = c.requires.reached in
    let l : c.loop-m.m < length c.loop-m.pool = omega (arith, c.loop-m-test.true, c.len.ensures) in
    let left = turns_left c.args.table.now r.0 c.args.workers r.1 r.2 c.args.pool.now c.args.peers.now c.args.bursts.now c.loop-m.m c.loop-m.pool c.loop-m.peers c.loop-m.bursts r.3 l c.loop-m.invariant in
    subst (λ m. AllUpTo c.args.table.now c.args.workers c.args.pool.now c.args.peers.now c.args.bursts.now m c.give_each.new.pool c.give_each.new.peers c.give_each.new.bursts) e
    (turns_more c.args.table.now c.args.workers c.args.pool.now c.args.peers.now c.args.bursts.now c.loop-m.m c.loop-m.pool c.give_each.new.pool c.loop-m.peers c.give_each.new.peers c.loop-m.bursts c.give_each.new.bursts
    l left k.lawful k.of_table k.count k.given c.loop-m.invariant)

pub returns-clause-moves : goal.returns-clause-moves
returns-clause-moves g c =
    turns_all c.args.table.now c.args.workers c.args.pool.now c.args.peers.now c.args.bursts.now c.loop-m.m c.loop-m.pool c.loop-m.peers c.loop-m.bursts (omega (arith, c.loop-m-test.false, c.len.ensures)) c.loop-m.invariant
