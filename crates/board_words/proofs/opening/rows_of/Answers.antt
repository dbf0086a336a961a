-- What the check of `rows_of` leaves to show.
use Rattle.std.proofs.Common.{◌≡◌, ◌≤◌, ◌∙◌, ℕ, ap, length, length-append, ◌∷◌, [], arith}
use Rattle.board_core.specs.Counts.{times}
use Rattle.board_work.specs.Scripts.{script}
use Rattle.board_work.specs.Plans.{plan_of}
use Rattle.board_words.proofs.Opens.{rows_more}
use Rattle.board_words.proofs.opening.rows_of.Goals as goal

pub loop-s-preserved : goal.loop-s-preserved
loop-s-preserved c =
    let i = c.loop-s.invariant in
    let e = c.in_ok-push.ensures.ok in
    let len = i.0 in (
      ap length e ∙ (let a = length-append c.loop-s.rows (c.in_ok-row.row ∷ []) in omega arith),
      rows_more c.loop-s.rows c.push.new.self c.in_ok-row.row c.loop-s.s (λ x r. (length r ≤ 256) × ((y : ℕ) → times y r ≡ (script (plan_of c.args.plan.now)).edge x y)) e i.0 (c.in_ok-row.ensures.short, c.in_ok-row.ensures.edges) i.1,
    )
