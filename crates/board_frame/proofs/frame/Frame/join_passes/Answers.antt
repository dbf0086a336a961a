-- What the check of `Frame::join_passes` leaves to show.
use Rattle.std.proofs.Common.{◌≡◌, ◌<◌, ℕ, List, Option, None, ap, sym, subst, ◌∙◌, arith, length, get_or, cond, min}
use Rattle.std.specs.Prelude.{is_some}
use Rattle.board_work.specs.declared.plan.Span.{Span}
use Rattle.board_words.specs.Runs.{run_at}
use Rattle.board_frame.proofs.PassFacts.{runs_either}
use Rattle.board_defs.specs.Closure.{Plan}
use Rattle.board_core.specs.declared.view.View.{View}
use Rattle.board_core.specs.Steps.{joined}
use Rattle.board_core.specs.Passes.{Fits, IsSettled}
use Rattle.board_core.proofs.Bases.{merges}
use Rattle.board_core.proofs.PassFits.{fits_joined, settled_joined, IsOr, IsStamps}
use Rattle.board_steps.specs.Abouts.{told, scripted}
use Rattle.board_work.specs.Scripts.{script}
use Rattle.board_frame.proofs.frame.Frame.join_passes.Goals as goal

pub join_seat-requires : goal.join_seat-requires
join_seat-requires c =
    let k = c.keep.inside in
    let o = c.other.inside in
    let sized = c.self.invariant.2 in (
      ap (λ z. z.table) c.keep.view_is ∙ (c.requires.keep.table ∙ ap (λ z. z.table) (sym c.self.view_is)),
      ap (λ z. z.table) c.other.view_is ∙ (c.requires.other.table ∙ ap (λ z. z.table) (sym c.self.view_is)),
      c.other.invariant.1,
      omega arith,
      merges (scripted c.self.inside.table.shared.key) k.seat.id o.seat.id k.seat.me.0 o.seat.me.0 c.keep.invariant.0.live,
    )

pub invariant_of-result : goal.invariant_of-result
invariant_of-result c =
    let k = c.keep.inside in
    let o = c.other.inside in
    let plans : told o.about.value ≡ told k.about.value = ap (λ z. told z.about) c.other.view_is ∙ (c.requires.other.plan ∙ (sym c.requires.keep.plan ∙ ap (λ z. told z.about) (sym c.keep.view_is))) in
    let both : length k.duty.items ≡ length o.duty.items = c.keep.invariant.2 ∙ (ap (λ (z : Plan). length z.txns) (sym plans) ∙ sym c.other.invariant.2) in
    let e : c.join_seat.new.seat.me.0 ≡ joined k.seat.me.0 o.seat.me.0 = ap (λ m. m.0) c.join_seat.ensures.2 in (
      subst (λ (w : View). Fits w c.merge_flags.new.keep.items c.merge_flags-2.new.keep.items c.merge_stamps.new.keep.items (run_at c.merge_runs.new.keep.items)) (sym e)
          (fits_joined k.seat.me.0 o.seat.me.0 k.duty.items o.duty.items c.merge_flags.new.keep.items k.tried.items o.tried.items c.merge_flags-2.new.keep.items k.begins.items o.begins.items c.merge_stamps.new.keep.items
          (run_at k.runs.items) (run_at o.runs.items) (run_at c.merge_runs.new.keep.items) both c.merge_flags.ensures.same c.merge_flags-2.ensures.same c.merge_stamps.ensures.same
          (subst (λ l. IsOr k.duty.items l c.merge_flags.new.keep.items) c.as_slice.ensures.value c.merge_flags.ensures.each)
          (subst (λ l. IsOr k.tried.items l c.merge_flags-2.new.keep.items) c.as_slice-2.ensures.value c.merge_flags-2.ensures.each)
          (subst (λ l. IsStamps k.begins.items l c.merge_stamps.new.keep.items) c.as_slice-3.ensures.value c.merge_stamps.ensures.each)
          (runs_either k.runs.items o.runs.items c.merge_runs.new.keep.items c.merge_runs.ensures.same (c.keep.invariant.4 ∙ (both ∙ sym c.other.invariant.4)) (subst (λ (l : List (Option Span)). (j : ℕ) → j < length c.merge_runs.new.keep.items → get_or c.merge_runs.new.keep.items j None ≡ cond (is_some (get_or l j None)) (get_or l j None) (get_or k.runs.items j None)) c.as_slice-4.ensures.value c.merge_runs.ensures.each))
          c.keep.invariant.0 c.other.invariant.0),
      ap (λ m. m.1) c.join_seat.ensures.2 ∙ c.keep.invariant.1,
      c.merge_flags.ensures.same ∙ c.keep.invariant.2,
      subst (IsSettled (script (told k.about.value))) (sym e) (settled_joined (script (told k.about.value)) k.seat.me.0 o.seat.me.0 c.keep.invariant.3 (subst (λ z. IsSettled (script z) o.seat.me.0) plans c.other.invariant.3)),
      c.merge_runs.ensures.same ∙ (c.keep.invariant.4 ∙ sym c.merge_flags.ensures.same),
      c.keep.invariant.5 ∙ ap (λ (w : View). w.number) (sym e),
      c.min.ensures ∙ ((λ i. min (c.keep.invariant.6 i) (c.other.invariant.6 i)) ∙ ap (λ (w : View). w.passes) (sym e)),
      (let a = c.keep.invariant.7 in let b = c.min.ensures in omega arith),
      c.keep.invariant.8,
      c.keep.invariant.9,
    )
