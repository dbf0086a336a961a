-- What the check of `open_frame` leaves to show.
use Rattle.std.proofs.Common.{◌≡◌, ◌≤◌, ◌∙◌, false, None, refl, sym, ap, subst, length, replicate, arith, ℕ, List, []}
use Rattle.std.proofs.lemmas.List.{length-replicate}
use Rattle.atomic_table.specs.Table.{opening}
use Rattle.board_defs.specs.Closure.{Plan}
use Rattle.board_core.specs.declared.view.View.{View}
use Rattle.board_core.specs.Rule.{Holds}
use Rattle.board_core.specs.Steps.{first_view}
use Rattle.board_core.specs.Passes.{Fits, IsSettled}
use Rattle.board_core.specs.Script.{Script}
use Rattle.board_work.specs.declared.layout.Layout.{Layout}
use Rattle.board_steps.specs.declared.about.About.{About}
use Rattle.board_steps.specs.Abouts.{told, scripted, IsLaidOut}
use Rattle.board_work.specs.Scripts.{script, script_of}
use Rattle.board_work.specs.Plans.{plan_of}
use Rattle.board_words.specs.Runs.{run_at}
use Rattle.board_frame.proofs.Fresh.{first_pass, first_settled}
use Rattle.board_frame.proofs.opening.open_frame.Goals as goal

-- what an About tells of, where its plan and its layout are these
scripted_is : (about : About) (layout : Layout) (plan : Plan) → told about ≡ plan → IsLaidOut layout about → scripted about ≡ script_of layout plan
scripted_is about layout plan is laid = λ i. script_of (laid i) (is i)

pub of_words-requires : goal.of_words-requires
of_words-requires c =
    let plan = plan_of c.args.plan.now in
    let layout = c.args.layout in
    let is = scripted_is c.about_of-about.result layout plan c.about_of-about.ensures.plan c.about_of-about.ensures.layout in
    subst (λ (p : Script). Holds p (opening c.as_slice-2.result.now [] (first_view p))) (sym is)
    (subst (λ (w : List ℕ). Holds (script_of layout plan) (opening w [] (first_view (script_of layout plan)))) (sym c.as_slice-2.ensures.value) c.in_ok-rows.ensures.words)

pub invariant_of-pass : goal.invariant_of-pass
invariant_of-pass c =
    let plan = plan_of c.args.plan.now in
    let h = c.requires.planned.lawful in
    let layout = c.args.layout in
    let first = script_of layout plan in
    let scripted_as = scripted_is c.about_of-about.result layout plan c.about_of-about.ensures.plan c.about_of-about.ensures.layout in
    let size_is = c.len-size.ensures in
    let duty = c.in_ok-rows.ensures.duty in
    let marks = c.in_ok-tried.ensures in
    let is_plan : told c.of-told.result.value ≡ plan = ap told c.of-told.ensures ∙ c.about_of-about.ensures.plan in
    let runs_are = marks.runs ∙ ap (λ k. replicate k None) size_is in
    let fits = first_pass first (first_view first) c.in_ok-rows.field-0.duty.items c.in_ok-tried.field-0.tried.items c.in_ok-tried.field-0.begins.items c.in_ok-tried.field-0.runs.items refl duty
    (marks.tried ∙ ap (λ k. replicate k false) size_is) (marks.begins ∙ ap (λ k. replicate k 0) size_is) runs_are in
    let view_is = ap (λ k. k.0) c.in_ok-table.ensures.4 ∙ ap first_view scripted_as in (
      subst (λ (v : View). Fits v c.in_ok-rows.field-0.duty.items c.in_ok-tried.field-0.tried.items c.in_ok-tried.field-0.begins.items (run_at c.in_ok-tried.field-0.runs.items)) (sym view_is) fits,
      ap (λ k. k.1) c.in_ok-table.ensures.4,
      duty.0 ∙ sym (ap (λ (q : Plan). length q.txns) is_plan),
      subst (λ (v : View). IsSettled (script (told c.of-told.result.value)) v) (sym view_is) (subst (λ (q : Plan). IsSettled (script q) (first_view first)) (sym is_plan) (first_settled (script plan) first (λ t own. own))),
      ap length runs_are ∙ (length-replicate _ _ ∙ sym duty.0),
      ap (λ (w : View). w.number) (sym view_is),
      ap (λ (w : View). w.passes) (sym view_is),
      omega arith,
      subst (λ (q : Plan). length q.txns ≤ 256) (sym is_plan) h.lawful.few,
      subst (λ (q : Plan). length q.own ≡ length q.txns) (sym is_plan) h.lawful.own_long,
    )
