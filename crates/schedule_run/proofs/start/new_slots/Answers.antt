-- What the check of `new_slots` leaves to show.
use Rattle.std.specs.Prelude.{◌≡◌, ◌+◌, suc, length}
use Rattle.std.proofs.Common.{ap, subst, arith}
use Rattle.txn_core.specs.States.{state_of}
use Rattle.world_laws.specs.Starts.{AreNewSlots}
use Rattle.world_laws.proofs.Starting.{slots_more}
use Rattle.schedule_run.proofs.start.new_slots.Goals as goal

pub loop-i-preserved : goal.loop-i-preserved
loop-i-preserved c =
    let e : suc c.loop-i.i ≡ c.loop-i.i + 1 = omega arith in
    subst (λ i. AreNewSlots c.args.table.now c.args.faulty.now (state_of c.args.genesis.now) i c.push.new.self.items) e
    (slots_more c.args.table.now c.args.faulty.now (state_of c.args.genesis.now) c.loop-i.i c.loop-i.slots.items c.push.new.self.items c.in_ok-slot.slot
    c.in_ok-slot.ensures c.in_ok-push.ensures.items c.loop-i.invariant)

pub returns : goal.returns
returns c =
    let e : c.loop-i.i ≡ length c.args.table.now.peers = omega (arith, c.loop-i-test.false, c.loop-i.auto.i-end, ap length c.as_slice.ensures) in
    subst (λ n. AreNewSlots c.args.table.now c.args.faulty.now (state_of c.args.genesis.now) n c.loop-i.slots.items) e c.loop-i.invariant
