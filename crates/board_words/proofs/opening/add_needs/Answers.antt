-- What the check of `add_needs` leaves to show.
use Rattle.std.proofs.Common.{◌∙◌, get_or, arith}
use Rattle.board_core.proofs.PassFits.{times-take, times-take-le}
use Rattle.board_words.proofs.opening.add_needs.Goals as goal

pub add_need-requires-clause-small : goal.add_need-requires-clause-small
add_need-requires-clause-small c =
    let row = c.args.row.now in
    let x = get_or row c.loop-i.i 0 in
    let n = c.loop-i.invariant.1 x in
    let le = times-take-le x c.loop-i.i row in
    let one = c.requires.once x in
    let old = c.requires.small x in omega arith

pub loop-i-preserved : goal.loop-i-preserved
loop-i-preserved c =
    let i = c.loop-i.invariant in
    let one = c.add_need.ensures in
    let row = c.args.row.now in (
      one.same ∙ i.0,
      (λ x. let a = one.needs x in let b = i.1 x in let e = times-take x c.loop-i.i row c.loop-i-test.true in omega arith),
      λ j other. one.others j (other (get_or row c.loop-i.i 0)) ∙ i.2 j other,
    )
