-- What the check of `adopt` leaves to show.
use Rattle.std.proofs.Common.{◌≡◌, ◌<◌, ◌+◌, length, get_or, None, List, Option, sym, ◌∙◌, ap, subst, arith, ⊎_elim}
use Rattle.txn_types.specs.declared.txn.Outcome.{Outcome}
use Rattle.txn_types.specs.Fitting.{Fits}
use Rattle.known_defs.specs.Known.{txn_at}
use Rattle.board_defs.specs.Closure.{IsKnownClosed}
use Rattle.steal_pool.specs.Fitting.{AllFitAt}
use Rattle.peer_parts.specs.Found.{IsSound, HasGiven, unknown, learned, offered}
use Rattle.peer_parts.specs.Tasks.{frame_of}
use Rattle.peer_parts.proofs.LearnLemmas.{learned_long, learned_few, learned_either, learned_keeps}
use Rattle.peer_parts.proofs.AdoptLemmas.{is_other, adopt_sound, adopt_closed, adopt_known, adopt_own, offered_given}
use Rattle.peer_parts.proofs.adopt.adopt.Goals as goal

pub loop-t-preserved : goal.loop-t-preserved
loop-t-preserved c =
    let k = c.args.task.now in
    let plan = frame_of k in
    let agreed = k.agreed.now in
    let xs = c.loop-t.known in
    let t = c.loop-t.t in
    let i = c.loop-t.invariant in
    let l : t < length k.block.now.txns = omega (arith, c.len-t-end.ensures) in
    let lx : t < length xs = omega (arith, l, i.long) in
    let y = offered plan agreed t xs in
    let new : c.learn.new.known ≡ learned xs t y = c.learn.ensures ∙ ap (learned xs t) c.offer-offered.ensures.offered in
    record {
      long = ap length new ∙ (learned_long xs t y ∙ i.long);
      fit = subst (AllFitAt k.block.now.txns) (sym new) (λ u o h. ⊎_elim (λ old. i.fit u o old) (λ p. subst (λ j. Fits (txn_at k.block.now.txns j) o) (sym p.0) (c.requires.task.fits t o (offered_given plan agreed xs t o p.1).1)) (learned_either xs t y lx u o h));
      closed = subst (IsKnownClosed k.table.now.kind k.block.now.txns) (sym new) (adopt_known plan agreed xs t lx i.closed);
      kept = λ u o h. ap (λ (zs : List (Option Outcome)). get_or zs u None) new ∙ learned_keeps xs t y lx u o (i.kept u o h);
      own = λ u own. ap (λ (zs : List (Option Outcome)). get_or zs u None) new ∙ (adopt_own plan agreed xs t u own ∙ i.own u own);
      sound = λ z. subst (IsSound plan agreed) (sym new) (adopt_sound plan agreed xs t i.long l (i.sound z));
      few = omega (arith, ap unknown new, learned_few xs t y lx, i.few);
      others = λ z. subst (λ ys. HasGiven (is_other plan) plan agreed ys (t + 1)) (sym new) (adopt_closed plan agreed xs t i.long l (i.sound z) (i.others z));
    }
