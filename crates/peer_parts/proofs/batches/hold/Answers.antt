-- What the check of `hold` leaves to show.
use Rattle.std.proofs.Common.{◌≡◌, ◌<◌, ◌+◌, ℕ, suc, cond, length, sym, ◌∙◌, ap, subst, arith}
use Rattle.txn_types.specs.declared.txn.Kind.{Kind}
use Rattle.peer_laws.specs.Turns.{vote_of}
use Rattle.peer_parts.specs.Holding.{has_just, cut_behind, held_if, sent_if}
use Rattle.peer_parts.proofs.CutLemmas.{CutsUpto, cuts_more}
use Rattle.peer_parts.proofs.batches.hold.Goals as goal

pub loop-t-preserved : goal.loop-t-preserved
loop-t-preserved c = record {
  same = c.in_ok-hold_at.ensures.same;
  cut = λ r me kind is order io h.
      let b = c.args.block.now in
      let own = c.args.own.now in
      let before = c.args.before.now in
      let after = c.args.after.now in
      let t = c.loop-t.t in
      let n = c.args.n in
      let l : t < length own = omega (arith, c.len-t-end.ensures) in
      let e : suc t ≡ t + 1 = omega arith in
      let held1 = c.loop-t.holder.votes in
      let sent1 = c.loop-t.sent in
      subst (λ (k : ℕ). CutsUpto r me n b before after order c.hold_at.new.holder.votes c.args.sent.now c.hold_at.new.sent k) e
      (cuts_more r me n b own before after order c.requires.own is io held1 c.hold_at.new.holder.votes c.args.sent.now sent1 c.hold_at.new.sent t (omega (arith, l, c.requires.own)) (c.loop-t.invariant.cut r me kind is order io h)
      (c.in_ok-hold_at.ensures.held ∙ ap (λ (k : Kind). cond (has_just own before after t) (held_if (cut_behind k b.txns own before after t) (vote_of after t) held1) held1) (sym kind))
      (c.in_ok-hold_at.ensures.sent ∙ ap (λ (k : Kind). cond (has_just own before after t) (sent_if n (cut_behind k b.txns own before after t) (vote_of after t) held1 sent1) sent1) (sym kind)));
}
