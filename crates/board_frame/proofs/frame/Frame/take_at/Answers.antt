-- What the check of `Frame::take_at` leaves to show.
use Rattle.std.proofs.Common.{◌≡◌, ◌+◌, length, ap, ◌∙◌, sym, subst, arith, true, set}
use Rattle.board_defs.specs.Closure.{Plan, is_own}
use Rattle.board_core.specs.declared.view.View.{View}
use Rattle.board_core.specs.Script.{Runs}
use Rattle.board_core.specs.Steps.{begun, swapped, loaded}
use Rattle.board_core.specs.Passes.{Fits}
use Rattle.board_core.proofs.PassFits.{fits_taken}
use Rattle.board_steps.specs.Abouts.{told}
use Rattle.board_work.specs.Scripts.{script}
use Rattle.board_words.specs.Runs.{run_at}
use Rattle.board_frame.proofs.PassFacts.{settled_taken}
use Rattle.script_laws.proofs.Sound.{own_below}
use Rattle.board_frame.proofs.frame.Frame.take_at.Goals as goal

pub invariant_of-pass-2 : goal.invariant_of-pass-2
invariant_of-pass-2 c =
    let p = c.pass.inside in
    let v : View = p.seat.me.0 in
    let t = c.args.t in
    let b = c.begin_stamp.result in
    let e₁ : c.load_need-need.new.seat.me.0 ≡ loaded t 0 v = ap (λ m. m.0) c.load_need-need.ensures.view ∙ ap (λ n. loaded t n v) c.if-need-ne0.false in
    let e₂ : c.swap_turn-turn.new.seat.me.0 ≡ swapped t 0 (loaded t 0 v) = ap (λ m. m.0) c.swap_turn-turn.ensures.view ∙ (λ k. swapped t (c.if-turn-ne0.false k) (e₁ k)) in
    let e₃ : c.begin_stamp.new.seat.me.0 ≡ begun t b (swapped t 0 (loaded t 0 v)) = ap (λ m. m.0) c.begin_stamp.ensures.view ∙ ap (begun t b) e₂ in
    let key = told c.self.inside.table.shared.key in
    let same : told p.about.value ≡ key = ap (λ z. told z.about) c.pass.view_is ∙ (c.requires.of.plan ∙ ap (λ z. told z.about) (sym c.self.view_is)) in
    let own = subst (λ z. is_own z t ≡ true) (ap (λ z. told z.about) (sym c.self.view_is)) c.requires.own in
    let below = own_below key c.self.invariant.4.lawful t own in
    let long = ap (λ (z : Plan). length z.txns) same in
    let duty = c.pass.invariant.2 in (
      subst (λ w. Fits w p.duty.items (set p.tried.items t true) (set p.begins.items t (b + 1)) (run_at p.runs.items)) (sym e₃) (fits_taken v p.duty.items p.tried.items p.begins.items (run_at p.runs.items) t b (omega arith) c.pass.invariant.0),
      ap (λ m. m.1) c.begin_stamp.ensures.view ∙ (ap (λ m. m.1) c.swap_turn-turn.ensures.view ∙ (ap (λ m. m.1) c.load_need-need.ensures.view ∙ c.pass.invariant.1)),
      c.pass.invariant.2,
      settled_taken (script (told p.about.value)) v c.begin_stamp.new.seat.me.0 t b (subst (λ z. Runs (script z) t) (sym same) c.begin_stamp.ensures.runs) e₃ c.pass.invariant.3,
      c.pass.invariant.4,
      c.pass.invariant.5 ∙ ap (λ (z : View). z.number) (sym e₃),
      c.pass.invariant.6 ∙ ap (λ (z : View). z.passes) (sym e₃),
      c.pass.invariant.7,
      c.pass.invariant.8,
      c.pass.invariant.9,
    )
