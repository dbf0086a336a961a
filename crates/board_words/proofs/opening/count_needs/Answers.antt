-- What the check of `count_needs` leaves to show.
use Rattle.std.proofs.Common.{◌≡◌, ◌∙◌, ◌+◌, ◌<◌, ◌≤◌, suc, sym, ap, subst, get_or, [], arith}
use Rattle.board_core.specs.Counts.{below, times}
use Rattle.board_steps.proofs.PartFacts.{stands_in}
use Rattle.board_words.proofs.Filling.{row_at}
use Rattle.board_words.proofs.opening.count_needs.Goals as goal

pub add_needs-requires-clause-room : goal.add_needs-requires-clause-room
add_needs-requires-clause-room c = λ k l.
    let row = c.as_slice-row.result.now in
    let same = row_at c.args.rows.now c.loop-s.s _ _ c.as_slice-row.ensures c.index-rows-s.is c.loop-s-test.true in
    let low = c.requires.low c.loop-s.s (get_or row k 0) (subst (λ r. 0 < times (get_or row k 0) r) same (stands_in row k l)) in
    let r0 = c.requires.room.0 in
    let r1 = c.requires.room.1 in
    let i0 = c.loop-s.invariant.0 in (omega arith, omega arith)

pub add_needs-requires-clause-once : goal.add_needs-requires-clause-once
add_needs-requires-clause-once c =
    let same = row_at c.args.rows.now c.loop-s.s _ _ c.as_slice-row.ensures c.index-rows-s.is c.loop-s-test.true in
    λ x. subst (λ r. times x r ≤ 1) (sym same) (c.requires.once c.loop-s.s x)

pub loop-s-preserved : goal.loop-s-preserved
loop-s-preserved c =
    let i = c.loop-s.invariant in
    let one = c.add_needs.ensures in
    let row = c.as_slice-row.result.now in
    let same = row_at c.args.rows.now c.loop-s.s _ _ c.as_slice-row.ensures c.index-rows-s.is c.loop-s-test.true in (
      one.same ∙ i.0,
      (λ t. let a = one.needs t in let b = i.1 t in let e = ap (times t) same in
          let s : below (c.loop-s.s + 1) (λ s. times t (get_or c.args.rows.now s [])) ≡ below (suc c.loop-s.s) (λ s. times t (get_or c.args.rows.now s [])) = ap (λ n. below n (λ s. times t (get_or c.args.rows.now s []))) {x = c.loop-s.s + 1} {y = suc c.loop-s.s} (omega arith) in omega arith),
      (λ t. let a = one.needs t in let b = i.2 t in let e = ap (times t) same in let o = c.requires.once c.loop-s.s t in omega arith),
      λ j other. one.others j other ∙ i.3 j other,
    )
