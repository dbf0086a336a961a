-- What the check of `send_block` leaves to show.
use Rattle.std.specs.Prelude.{◌≡◌, ◌+◌, ◌++◌, ◌∷◌, [], suc, length}
use Rattle.std.proofs.Common.{sym, ◌∙◌, ap, subst, arith}
use Rattle.world_laws.specs.Starts.{nodes_of}
use Rattle.world_laws.proofs.Starting.{Sending, sending_all, sending_more, sending_past}
use Rattle.message_pool.proofs.first.send_block.Goals.{then-not-is_named+in_ok-letter+in_ok-push, else-not-is_named}
use Rattle.message_pool.proofs.first.send_block.Goals as goal

pub loop-o-preserved : goal.loop-o-preserved
loop-o-preserved c =
    let s = nodes_of c.args.table.now c.args.faulty.now in
    let b = c.args.block.now in
    let n = length c.args.table.now.orderers in
    let old = c.args.pool.now in
    let o = c.loop-o.o in
    let e : suc o ≡ o + 1 = omega arith in
    subst (λ k. Sending s b n old k c.if-not-is_named.pool) e (elim c.if-not-is_named.branch [
      | then-not-is_named+in_ok-letter+in_ok-push w ↦
          sending_more s b n old o c.loop-o.pool c.if-not-is_named.pool (sym c.is_named.ensures ∙ w.if-not-is_named.true)
          (w.pool-is ∙ (w.in_ok-push.ensures.ok ∙ ap (λ x. c.loop-o.pool ++ x ∷ []) w.in_ok-letter.ensures)) c.loop-o.invariant
      | else-not-is_named w ↦
          subst (Sending s b n old (suc o)) (sym w.pool-is) (sending_past s b n old o c.loop-o.pool (sym c.is_named.ensures ∙ w.if-not-is_named.false) c.loop-o.invariant)
    ])

pub returns : goal.returns
returns c =
    let n = length c.args.table.now.orderers in
    sending_all (nodes_of c.args.table.now c.args.faulty.now) c.args.block.now n c.args.pool.now c.loop-o.o c.loop-o.pool
    (omega (arith, c.loop-o-test.false, c.loop-o.auto.o-end, ap length c.as_slice.ensures)) c.loop-o.invariant
