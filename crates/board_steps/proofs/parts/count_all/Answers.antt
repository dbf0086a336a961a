-- What the check of `count_all` leaves to show.
use Rattle.std.proofs.Common.{◌<◌, ◌∙◌, sym, subst, get_or, arith}
use Rattle.board_core.specs.declared.view.View.{View}
use Rattle.board_core.specs.Counts.{times_first}
use Rattle.board_steps.specs.Abouts.{told}
use Rattle.board_work.specs.Scripts.{waits}
use Rattle.board_steps.proofs.PartFacts.{stands_in, fresh_edge, counts_step}
use Rattle.board_steps.proofs.parts.count_all.Goals as goal

pub count_one-requires-clause-place : goal.count_one-requires-clause-place
count_one-requires-clause-place c =
    let row = c.args.row.now in
    let u = get_or row c.loop-i.i 0 in
    let a = stands_in row c.loop-i.i c.loop-i-test.true in
    let b = c.requires.row.1 u in
    let own = (c.requires.sound.edge_is_forward c.args.s u (omega arith)).1 in
    (c.requires.sound.own_is_below u own, c.requires.place.0, c.loop-i.invariant.2 ∙ c.requires.place.1)

pub count_one-requires-clause-edge : goal.count_one-requires-clause-edge
count_one-requires-clause-edge c =
    let i = c.loop-i.invariant in
    let row = c.args.row.now in
    let u = get_or row c.loop-i.i 0 in
    let a = stands_in row c.loop-i.i c.loop-i-test.true in
    let b = c.requires.row.1 u in (
      subst (λ (w : View). 0 < times_first c.args.s w.finishes) (sym i.3.same) c.requires.done,
      omega arith,
      fresh_edge (waits (told c.args.words.now.key) c.args.s u) c.args.s c.loop-i.i row c.args.seat.now.me.0 c.loop-i.seat.me.0 c.args.made.now c.loop-i.made b c.loop-i-test.true (c.requires.new u) i.3,
    )

pub loop-i-preserved : goal.loop-i-preserved
loop-i-preserved c =
    let i = c.loop-i.invariant in
    let len = i.4 in
    let room = c.count_one.ensures.room in
    let one = c.count_one.ensures in (
      one.same.0 ∙ i.0,
      one.same.1 ∙ i.1,
      one.same.2 ∙ i.2,
      counts_step c.args.row.now c.loop-i.i c.args.s c.args.seat.now.me.0 c.loop-i.seat.me.0 c.count_one.new.seat.me.0 c.args.made.now c.loop-i.made c.count_one.new.made c.loop-i-test.true i.3 one.counts,
      omega arith,
      one.duties,
    )
