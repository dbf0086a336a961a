-- What the check of `give_each` leaves to show.
use Rattle.std.specs.Prelude.{◌≡◌, ◌<◌, suc, ◌+◌, length, get_or, slice_set, refl}
use Rattle.std.proofs.Common.{◌∙◌, ap, subst, arith}
use Rattle.world_laws.specs.Shown.{Gave}
use Rattle.world_laws.proofs.Giving.{Giving, give_lawful, giving_all, giving_more, slot_is}
use Rattle.schedule_run.proofs.each.give_each.Goals as goal

pub overflow_cast-n : goal.overflow_cast-n
overflow_cast-n g c = omega (arith, c.requires.table.peers.1, ap length c.as_slice.ensures)

pub give-requires-clause-lawful : goal.give-requires-clause-lawful
give-requires-clause-lawful g c κs within =
    let v = c.loop-i.invariant in
    give_lawful c.args.table.now c.loop-i.peers c.loop-i.i c.index-peers-i.result c.loop-i.pool c.args.m c.index-as_slice-m.result
    (omega (arith, c.loop-i-test.true, v.count, ap length c.as_slice.ensures)) v.here (c.index-as_slice-m.is ∙ ap (λ xs. get_or xs c.args.m c.index-as_slice-m.result) c.as_slice-in-loop-i.ensures) v.of_table v.lawful

pub loop-i-preserved : goal.loop-i-preserved
loop-i-preserved g c =
    let v = c.loop-i.invariant in
    let t = c.args.table.now in
    let y = c.index-as_slice-m.result in
    let l : c.loop-i.i < length t.peers = omega (arith, c.loop-i-test.true, ap length c.as_slice.ensures) in
    let e : suc c.loop-i.i ≡ c.loop-i.i + 1 = omega arith in
    let here : c.loop-i.i < length c.loop-i.peers = omega (arith, l, v.count) in
    subst (λ i. Giving t c.args.workers c.args.pool.now c.args.peers.now c.args.bursts.now c.args.m i c.send.new.pool (slice_set c.loop-i.peers c.loop-i.i c.give.new.slot) c.list.new.bursts) e
    (giving_more t c.args.workers c.args.pool.now c.args.peers.now c.args.bursts.now c.args.m c.loop-i.i c.loop-i.pool c.send.new.pool c.loop-i.peers (slice_set c.loop-i.peers c.loop-i.i c.give.new.slot) c.loop-i.bursts c.list.new.bursts
    y c.give.new.slot c.in_ok-made.made.sent c.in_ok-made.made.spans
    l (c.index-as_slice-m.is ∙ ap (λ xs. get_or xs c.args.m y) c.as_slice-in-loop-i.ensures)
    (subst (λ o. Gave c.args.workers y o c.give.new.slot c.in_ok-made.made.sent c.in_ok-made.made.spans) (slot_is c.loop-i.peers c.loop-i.i c.index-peers-i.result here) c.in_ok-made.ensures.gave)
    c.in_ok-send.ensures.sent refl c.in_ok-list.ensures.listed v)

pub returns-clause-given : goal.returns-clause-given
returns-clause-given g c =
    let v = c.loop-i.invariant in
    let t = c.args.table.now in
    let e : c.loop-i.i ≡ length t.peers = omega (arith, c.loop-i-test.false, c.loop-i.auto.i-end, ap length c.as_slice.ensures) in
    giving_all t c.args.workers c.args.pool.now c.args.peers.now c.args.bursts.now c.args.m c.loop-i.i c.loop-i.pool c.loop-i.peers c.loop-i.bursts e v
