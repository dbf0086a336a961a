-- What the check of `Frame::split_pass` leaves to show.
use Rattle.std.proofs.Common.{◌≡◌, ◌<◌, ◌≤◌, ap, sym, subst, ◌∙◌, arith, length, rules}
use Rattle.std.proofs.lemmas.List.{length-replicate}
use Rattle.board_defs.specs.Closure.{Plan}
use Rattle.board_core.specs.declared.view.View.{View}
use Rattle.board_core.specs.Passes.{Fits, IsSettled}
use Rattle.board_core.specs.Steps.{newcomer}
use Rattle.board_words.specs.Runs.{run_at}
use Rattle.board_frame.proofs.Fresh.{new_pass, fresh_settled}
use Rattle.board_steps.specs.Abouts.{told, scripted}
use Rattle.board_work.specs.Scripts.{script}
use Rattle.board_core.proofs.Bases.{splits}
use Rattle.board_frame.proofs.frame.Frame.split_pass.Goals as goal

pub split_seat-seat-requires : goal.split_seat-seat-requires
split_seat-seat-requires c =
    let p = c.pass.inside in
    let sized = c.self.invariant.2 in
    (ap (λ z. z.table) c.pass.view_is ∙ (c.requires.of.table ∙ ap (λ z. z.table) (sym c.self.view_is)), omega arith, splits (scripted c.self.inside.table.shared.key) p.seat.id p.seat.me.0 c.pass.invariant.0.live (subst (λ (z : _). z.view.passes < 16) (sym c.pass.view_is) c.requires.few))

pub invariant_of-result : goal.invariant_of-result
invariant_of-result c =
    let p = c.pass.inside in
    let made = c.split_seat-seat.ensures.4 in
    let e : c.split_seat-seat.result.me.0 ≡ newcomer p.seat.me.0.passes = ap (λ m. m.0) made in
    let plans : told c.of-about.result.value ≡ told p.about.value = ap told c.of-about.ensures ∙ (ap told c.self.invariant.0 ∙ (ap (λ z. told z.about) c.self.view_is ∙ (sym c.requires.of.plan ∙ ap (λ z. told z.about) (sym c.pass.view_is)))) in
    let d = c.in_ok-duty.ensures.items_if_clones_equal (search rules) in
    let t = c.in_ok-tried.ensures.tried in
    let b = c.in_ok-tried.ensures.begins in
    let r = c.in_ok-tried.ensures.runs in (
      subst (λ (w : View). Fits w c.in_ok-duty.duty.items c.in_ok-tried.field-0.tried.items c.in_ok-tried.field-0.begins.items (run_at c.in_ok-tried.field-0.runs.items)) (sym e)
          (new_pass p.seat.me.0.passes (length c.as_slice-size.result.now) c.in_ok-duty.duty.items c.in_ok-tried.field-0.tried.items c.in_ok-tried.field-0.begins.items c.in_ok-tried.field-0.runs.items d t b r),
      ap (λ m. m.1) made,
      ap length d ∙ (length-replicate _ _ ∙ (ap length c.as_slice-size.ensures.value ∙ ((c.pass.invariant.2 ∙ sym (ap (λ (z : Plan). length z.txns) plans))))),
      subst (IsSettled (script (told c.of-about.result.value))) (sym e) (fresh_settled (script (told c.of-about.result.value)) p.seat.me.0.passes 16 _ (λ x pos. absurd (omega arith))),
      ap length r ∙ (length-replicate _ _ ∙ sym (ap length d ∙ length-replicate _ _)),
      c.pass.invariant.6 ∙ ap (λ (w : View). w.number) (sym e),
      ap (λ (w : View). w.passes) (sym e),
      omega arith,
      subst (λ (q : Plan). length q.txns ≤ 256) (sym plans) c.pass.invariant.8,
      subst (λ (q : Plan). length q.own ≡ length q.txns) (sym plans) c.pass.invariant.9,
    )
