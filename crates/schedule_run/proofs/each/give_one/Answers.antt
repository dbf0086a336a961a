-- What the check of `give_one` leaves to show.
use Rattle.std.specs.Prelude.{suc, ◌≡◌, ◌<◌, ◌-◌, ◌++◌, map, length, get_or, slice_set, is_some, not, false}
use Rattle.std.proofs.Common.{sym, ◌∙◌, ap, subst, arith, inl, inr, ◌⊎◌}
use Rattle.std.specs.List.{AllByRecursion}
use Rattle.txn_types.specs.declared.event.Event.TheVariants as event
use Rattle.txn_core.specs.MeantTable.{table_of}
use Rattle.world_laws.specs.Deliveries.{burst_at}
use Rattle.world_laws.specs.Shown.{Gave, IsLawfulLetter, Moves}
use Rattle.world_laws.proofs.Giving.{give_lawful, lawful_more, slot_is}
use Rattle.world_laws.proofs.One.{moves_past, moves_faulty, moves_given, slot_none}
use Rattle.schedule_run.proofs.each.give_one.Goals as goal
use Rattle.schedule_run.proofs.each.give_one.Goals.{then-msg-eq0-via-then-msg-eq0, then-msg-eq0-via-else-msg-eq0+then-len-msg}

pub returns-then-msg-eq0-clause-moves : goal.returns-then-msg-eq0-clause-moves
returns-then-msg-eq0-clause-moves g c =
    let past : (c.args.msg ≡ 0) ⊎ (length c.args.pool.now < c.args.msg) = elim c.then-msg-eq0.branch [
      | then-msg-eq0-via-then-msg-eq0 w ↦ inl (omega (arith, w.if-msg-eq0))
      | then-msg-eq0-via-else-msg-eq0+then-len-msg w ↦ inr (omega (arith, w.if-len-msg, w.len.ensures))
    ] in
    moves_past c.args.table.now c.args.workers c.args.pool.now c.args.peers.now c.args.bursts.now c.args.msg c.args.to past

pub returns-then-faulty-clause-moves : goal.returns-then-faulty-clause-moves
returns-then-faulty-clause-moves g c =
    subst (λ idly. Moves c.args.table.now c.args.workers (event.Deliver c.args.msg c.args.to) idly c.args.pool.now c.args.peers.now c.args.bursts.now c.args.pool.now c.args.peers.now c.args.bursts.now) (sym c.if-faulty.true)
    (moves_faulty c.args.table.now c.args.workers c.args.pool.now c.args.peers.now c.args.bursts.now c.args.msg c.args.to c.requires.to
    (slot_none c.args.peers.now c.args.to c.index-peers-to.result (omega (arith, c.requires.to, c.requires.count)) (c.is_none-faulty.ensures ∙ ap not c.if-faulty.true)))

pub give-requires-clause-lawful : goal.give-requires-clause-lawful
give-requires-clause-lawful g c κs within =
    give_lawful c.args.table.now c.args.peers.now c.args.to c.index-peers-to-2.result c.args.pool.now (c.args.msg - 1) c.index-as_slice-msg.result
    (omega (arith, c.requires.to, c.requires.count)) (omega (arith, c.if-msg-eq0.false, c.if-len-msg.false, c.len.ensures))
    (c.index-as_slice-msg.is ∙ ap (λ xs. get_or xs (c.args.msg - 1) c.index-as_slice-msg.result) c.as_slice.ensures) c.requires.of_table c.requires.lawful

pub returns-clause-lawful : goal.returns-clause-lawful
returns-clause-lawful g c = subst (AllByRecursion (IsLawfulLetter (table_of c.args.table.now))) (sym c.in_ok-send.ensures.sent) (lawful_more (table_of c.args.table.now) c.args.to c.args.pool.now c.in_ok-made.made.sent c.requires.lawful)

pub returns-clause-moves : goal.returns-clause-moves
returns-clause-moves g c =
    let y = c.index-as_slice-msg.result in
    let t = c.args.table.now in
    let made = c.in_ok-made.made in
    let here : c.args.to < length c.args.peers.now = omega (arith, c.requires.to, c.requires.count) in
    let n : suc (c.args.msg - 1) ≡ c.args.msg = omega (arith, c.if-msg-eq0.false) in
    let gave = subst (λ o. Gave c.args.workers y o c.give.new.slot made.sent made.spans) (slot_is c.args.peers.now c.args.to c.index-peers-to-2.result here) c.in_ok-made.ensures.gave in
    let there = sym (ap is_some (slot_is c.args.peers.now c.args.to c.index-peers-to.result here)) ∙ (c.is_none-faulty.ensures ∙ ap not c.if-faulty.false) in
    let peers = slice_set c.args.peers.now c.args.to c.give.new.slot in
    subst (λ bs. Moves t c.args.workers (event.Deliver c.args.msg c.args.to) false c.args.pool.now c.args.peers.now c.args.bursts.now c.send.new.pool peers bs) (sym c.in_ok-list.ensures.listed)
    (subst (λ ps. Moves t c.args.workers (event.Deliver c.args.msg c.args.to) false c.args.pool.now c.args.peers.now c.args.bursts.now ps peers (c.args.bursts.now ++ map (burst_at c.args.to) made.spans)) (sym c.in_ok-send.ensures.sent)
    (moves_given t c.args.workers c.args.pool.now c.args.peers.now c.args.bursts.now c.args.msg (c.args.msg - 1) c.args.to y c.give.new.slot made.sent made.spans
    n (omega (arith, c.if-msg-eq0.false, c.if-len-msg.false, c.len.ensures)) c.requires.to
    (c.index-as_slice-msg.is ∙ ap (λ xs. get_or xs (c.args.msg - 1) y) c.as_slice.ensures) there gave))
