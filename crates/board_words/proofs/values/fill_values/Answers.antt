-- What the check of `fill_values` leaves to show.
use Rattle.std.proofs.Common.{◌∙◌, ◌+◌, ◌*◌, sym, ap, length, get_or, arith, length-set, get_or-set_other, refl}
use Rattle.txn_core.proofs.StateLemmas.{value_of_state}
use Rattle.board_words.proofs.Filling.{value_step}
use Rattle.board_words.proofs.values.fill_values.Goals as goal

pub loop-r-preserved : goal.loop-r-preserved
loop-r-preserved c =
    let i = c.loop-r.invariant in
    let ws = c.loop-r.words.items in
    let vs = c.as_slice-values.result.now in
    let len = i.0 in
    let same = ap length c.as_slice-values.ensures.items in (
      length-set ws (2 * c.loop-r.r + 2) (get_or vs c.loop-r.r 0) ∙ i.0,
      value_step ws vs c.loop-r.r (get_or vs c.loop-r.r 0) (omega (arith, c.requires.room, c.loop-r-test.true)) refl i.1,
      λ k other. get_or-set_other ws (2 * c.loop-r.r + 2) k (get_or vs c.loop-r.r 0) 0 (other c.loop-r.r) ∙ i.2 k other,
    )

pub returns-clause-values : goal.returns-clause-values
returns-clause-values c = λ r l.
    let same = ap length c.as_slice-values.ensures.items in
    c.loop-r.invariant.1 r (omega (arith, l, c.loop-r-test.false, c.loop-r.auto.r-end)) ∙ (ap (λ xs. get_or xs r 0) c.as_slice-values.ensures.items ∙ sym (value_of_state c.args.values.now r))
