-- What the check of `Frame::finish_at` leaves to show.
use Rattle.std.proofs.Common.{◌≡◌, ◌<◌, refl, ap, ◌∙◌, sym, subst, Some, true}
use Rattle.known_defs.specs.Known.{txn_at}
use Rattle.board_defs.specs.Closure.{is_own}
use Rattle.board_core.specs.declared.view.View.{View}
use Rattle.board_core.specs.Counts.{times_first, times_pair}
use Rattle.board_words.specs.Runs.{run_at}
use Rattle.board_core.specs.Steps.{finished}
use Rattle.board_core.specs.Parts.{Counts}
use Rattle.board_core.specs.Passes.{IsSettled, Ends}
use Rattle.board_core.proofs.PassFits.{fits_ended}
use Rattle.board_steps.specs.Abouts.{told, scripted}
use Rattle.board_defs.specs.Closure.{IsLawfulPlan}
use Rattle.board_work.specs.Scripts.{script}
use Rattle.board_frame.proofs.FrameFacts.{made_is_own, meant_there, pass_plan, plan_is, row_by, writes_there}
use Rattle.script_laws.proofs.Sound.{sound_for}
use Rattle.script_laws.proofs.Fitted.{outcome_fits, fits_small}
use Rattle.board_frame.proofs.PassFacts.{ended_same, ended_settled, ended_duties}
use Rattle.board_frame.proofs.frame.Frame.finish_at.Goals as goal

pub publish_all-requires-clause-meant : goal.publish_all-requires-clause-meant
publish_all-requires-clause-meant c = meant_there (told c.self.inside.table.shared.key) (told c.args.self.now.about) c.args.t c.args.outcome.now (plan_is _ _ c.self.view_is) c.holds.ensures.comes c.requires.meant

pub publish_all-requires-clause-unset : goal.publish_all-requires-clause-unset
publish_all-requires-clause-unset c = c.pass.invariant.3.unpublished c.args.t (ap (λ z. times_first c.args.t z.view.finishes) c.pass.view_is ∙ c.requires.held.unfinished)

pub publish_all-requires-clause-small : goal.publish_all-requires-clause-small
publish_all-requires-clause-small c = λ cells is.
    let plan = told c.args.self.now.about in
    let lawful = subst IsLawfulPlan (plan_is _ _ c.self.view_is) c.self.invariant.4.lawful in
    fits_small (txn_at plan.txns c.args.t) c.args.outcome.now cells (outcome_fits plan lawful c.args.t c.args.outcome.now c.holds.ensures.place (meant_there plan plan c.args.t c.args.outcome.now refl c.holds.ensures.comes c.requires.meant)) is

pub write_kept-requires-clause-records : goal.write_kept-requires-clause-records
write_kept-requires-clause-records c = writes_there (told c.self.inside.table.shared.key) (told c.args.self.now.about) c.args.t c.held_txn-txn.result.now c.as_slice-writes.result.now (plan_is _ _ c.self.view_is) c.self.invariant.4.lawful c.self.invariant.5 c.held_txn-txn.ensures c.as_slice-writes.ensures.items

pub write_kept-requires-clause-meant : goal.write_kept-requires-clause-meant
write_kept-requires-clause-meant c = meant_there (told c.self.inside.table.shared.key) (told c.args.self.now.about) c.args.t c.args.outcome.now (plan_is _ _ c.self.view_is) c.holds.ensures.comes c.requires.meant

pub count_all-requires-clause-sound : goal.count_all-requires-clause-sound
count_all-requires-clause-sound c = sound_for c.self.inside.table.shared.key.layout.value (told c.self.inside.table.shared.key) c.self.invariant.4 c.self.invariant.5

pub count_all-requires-clause-row : goal.count_all-requires-clause-row
count_all-requires-clause-row c = (c.held_row-row.ensures.short, row_by (told c.self.inside.table.shared.key) (told c.args.self.now.about) c.args.t c.held_row-row.result.now (plan_is _ _ c.self.view_is) c.held_row-row.ensures.edges)

pub finish_stamp-finish-requires-clause-held : goal.finish_stamp-finish-requires-clause-held
finish_stamp-finish-requires-clause-held c =
    let v : View = c.pass.inside.seat.me.0 in
    let t = c.args.t in
    let begins : c.write_kept.new.seat.me.0.begins ≡ c.args.pass.now.view.begins = ap (λ (z : View). z.begins) c.write_kept.ensures.view.0 ∙ (ap (λ (z : View). z.begins) c.publish_all.ensures.published.same ∙ ap (λ z. z.view.begins) c.pass.view_is) in
    let finishes : c.write_kept.new.seat.me.0.finishes ≡ c.args.pass.now.view.finishes = ap (λ (z : View). z.finishes) c.write_kept.ensures.view.0 ∙ (ap (λ (z : View). z.finishes) c.publish_all.ensures.published.same ∙ ap (λ z. z.view.finishes) c.pass.view_is) in
    (subst (λ xs. 0 < times_pair t c.begin_of-begin.result xs) (sym begins) c.begin_of-begin.ensures.begun, subst (λ xs. 0 < times_first t xs) (sym begins) c.requires.held.begun, ap (times_first t) finishes ∙ c.requires.held.unfinished)

pub invariant_of-pass : goal.invariant_of-pass
invariant_of-pass c =
    let p = c.pass.inside in
    let v : View = p.seat.me.0 in
    let t = c.args.t in
    let b = c.begin_of-begin.result in
    let f = c.finish_stamp-finish.result in
    let key = told c.self.inside.table.shared.key in
    let mine = pass_plan _ _ _ _ c.pass.view_is c.requires.of c.self.view_is in
    let stamp : c.finish_stamp-finish.new.seat.me.0 ≡ finished t b f c.write_kept.new.seat.me.0 = ap (λ m. m.0) c.finish_stamp-finish.ensures.view in
    let w : View = c.count_all.new.seat.me.0 in
    let same = ended_same v c.publish_all.new.seat.me.0 c.write_kept.new.seat.me.0 c.finish_stamp-finish.new.seat.me.0 w t b f c.publish_all.ensures.published.same c.write_kept.ensures.view.0 stamp c.count_all.ensures.counts.same in
    let row = row_by key (told c.args.self.now.about) t c.held_row-row.result.now (plan_is _ _ c.self.view_is) c.held_row-row.ensures.edges in
    let counts = subst (λ m. Counts c.held_row-row.result.now t c.finish_stamp-finish.new.seat.me.0 w m c.count_all.new.made) c.requires.empty c.count_all.ensures.counts in (
      fits_ended v w p.duty.items c.count_all.new.duty.items p.tried.items p.begins.items (run_at p.runs.items) (run_at c.put_run.new.runs.items) t b f same c.count_all.ensures.duties c.count_all.ensures.same.2
          (c.put_run.ensures.put ∙ ap (λ n. Some (t, n, b, f)) c.pass.invariant.5, c.put_run.ensures.others) c.pass.invariant.0,
      c.count_all.ensures.same.1 ∙ (ap (λ m. m.1) c.finish_stamp-finish.ensures.view ∙ (c.write_kept.ensures.same.2 ∙ (c.publish_all.ensures.same.2 ∙ c.pass.invariant.1))),
      c.count_all.ensures.same.2 ∙ c.pass.invariant.2,
      subst (λ z. IsSettled (script z) w) (sym mine) (ended_settled v c.publish_all.new.seat.me.0 c.write_kept.new.seat.me.0 c.finish_stamp-finish.new.seat.me.0 w t b f c.publish_all.ensures.published.same c.write_kept.ensures.view.0 stamp c.count_all.ensures.counts.same
          (script key) c.held_row-row.result.now c.count_all.new.made row c.publish_all.ensures.published.others c.write_kept.ensures.view.1 counts
          (made_is_own (scripted c.self.inside.table.shared.key) t c.held_row-row.result.now c.count_all.new.made c.finish_stamp-finish.new.seat.me.0 w (sound_for c.self.inside.table.shared.key.layout.value key c.self.invariant.4 c.self.invariant.5) row counts)
          c.pass.invariant.0.live (subst (λ (z : View). 0 < times_pair t b z.begins) (ap (λ z. z.view) (sym c.pass.view_is)) c.begin_of-begin.ensures.begun)
          (subst (λ z. IsSettled (script z) v) mine c.pass.invariant.3)),
      c.put_run.ensures.same ∙ (c.pass.invariant.4 ∙ sym c.count_all.ensures.same.2),
      c.pass.invariant.5 ∙ ap (λ (z : View). z.number) (sym same),
      c.pass.invariant.6 ∙ ap (λ (z : View). z.passes) (sym same),
      c.pass.invariant.7,
      c.pass.invariant.8,
      c.pass.invariant.9,
    )

pub returns-clause-made_own : goal.returns-clause-made_own
returns-clause-made_own c =
    let t = c.args.t in
    let key = told c.self.inside.table.shared.key in
    let is = plan_is _ _ c.self.view_is in
    let row = row_by key (told c.args.self.now.about) t c.held_row-row.result.now (plan_is _ _ c.self.view_is) c.held_row-row.ensures.edges in
    let counts = subst (λ m. Counts c.held_row-row.result.now t c.finish_stamp-finish.new.seat.me.0 c.count_all.new.seat.me.0 m c.count_all.new.made) c.requires.empty c.count_all.ensures.counts in
    λ y pos. subst (λ z. is_own z y ≡ true) is (made_is_own (scripted c.self.inside.table.shared.key) t c.held_row-row.result.now c.count_all.new.made c.finish_stamp-finish.new.seat.me.0 c.count_all.new.seat.me.0 (sound_for c.self.inside.table.shared.key.layout.value key c.self.invariant.4 c.self.invariant.5) row counts y pos)

pub returns-clause-ends : goal.returns-clause-ends
returns-clause-ends c =
    let p = c.pass.inside in
    let v : View = p.seat.me.0 in
    let t = c.args.t in
    let b = c.begin_of-begin.result in
    let f = c.finish_stamp-finish.result in
    let stamp : c.finish_stamp-finish.new.seat.me.0 ≡ finished t b f c.write_kept.new.seat.me.0 = ap (λ m. m.0) c.finish_stamp-finish.ensures.view in
    let w : View = c.count_all.new.seat.me.0 in
    let e : v ≡ c.args.pass.now.view = ap (λ z. z.view) c.pass.view_is in
    let counts = subst (λ m. Counts c.held_row-row.result.now t c.finish_stamp-finish.new.seat.me.0 w m c.count_all.new.made) c.requires.empty c.count_all.ensures.counts in
    subst (λ (z : View). Ends t z w c.count_all.new.made) e record {
      begin = b;
      stamp = f;
      same = ended_same v c.publish_all.new.seat.me.0 c.write_kept.new.seat.me.0 c.finish_stamp-finish.new.seat.me.0 w t b f c.publish_all.ensures.published.same c.write_kept.ensures.view.0 stamp c.count_all.ensures.counts.same;
      duties = ended_duties v c.publish_all.new.seat.me.0 c.write_kept.new.seat.me.0 c.finish_stamp-finish.new.seat.me.0 w t b f c.publish_all.ensures.published.same c.write_kept.ensures.view.0 stamp c.count_all.ensures.counts.same c.held_row-row.result.now c.count_all.new.made counts;
    }
