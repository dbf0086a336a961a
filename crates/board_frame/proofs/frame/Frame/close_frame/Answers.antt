-- What the check of `Frame::close_frame` leaves to show.
use Rattle.std.proofs.Common.{◌≡◌, ◌∙◌, ◌<◌, ◌+◌, arith, ap, sym, subst, List, ℕ, length, true}
use Rattle.std.specs.Mem.Slots.{slots_items}
use Rattle.board_defs.specs.Closure.{IsLawfulPlan, is_own}
use Rattle.board_core.specs.declared.view.View.{View}
use Rattle.board_core.specs.Words.{part}
use Rattle.board_core.proofs.Closing.{traces}
use Rattle.board_steps.specs.Abouts.{told}
use Rattle.board_work.specs.Scripts.{script_of, word_of, outcome_at, writes_at}
use Rattle.std.proofs.Common.{map}
use Rattle.board_defs.specs.Closure.{Plan, run_outcomes}
use Rattle.board_work.specs.Spans.{span_of}
use Rattle.script_laws.specs.Placed.{placed}
use Rattle.board_words.specs.Runs.{run_at}
use Rattle.board_frame.proofs.Closed.{word_is, cells_long, last_is, outcomes_are, closes_by}
use Rattle.board_frame.proofs.FrameFacts.{plan_is, pass_plan}
use Rattle.board_frame.proofs.frame.Frame.close_frame.Goals as goal

pub read_all-requires-clause-long : goal.read_all-requires-clause-long
read_all-requires-clause-long c = λ t cells own e.
    cells_long (told c.self.inside.about) t cells (subst (λ a. IsLawfulPlan (told a)) (sym c.self.invariant.0) c.self.invariant.4.lawful) own e

pub read_all-requires-clause-words : goal.read_all-requires-clause-words
read_all-requires-clause-words c =
    let p = c.pass.inside in
    let v : View = p.seat.me.0 in
    let key = told c.self.inside.table.shared.key in
    let last = c.close_with-closed.ensures.values.2 in
    let layout = c.self.inside.table.shared.key.layout.value in
    let whole = last_is layout key (told p.about.value) v c.args.pass.view (pass_plan _ _ _ _ c.pass.view_is c.requires.of c.self.view_is) (ap (λ k. k.view) c.pass.view_is) c.pass.invariant.3 c.requires.complete c.requires.tried c.requires.free in
    subst (λ a. (t k : ℕ) → is_own (told a) t ≡ true → k < 1 + length (writes_at (told a) t) → part (slots_items c.close_with-closed.result.words) t k ≡ word_of (outcome_at (told a) t) k) (sym c.self.invariant.0)
    (λ t k own l. subst (λ (ws : List ℕ). part ws t k ≡ word_of (outcome_at key t) k) last.2 (word_is layout key last.0 p.seat.id v last.1.0 last.1.1 whole t k own l))

pub spans_of-trace-requires : goal.spans_of-trace-requires
spans_of-trace-requires c =
    let e1 = ap length c.as_slice-3.ensures.value in
    let e2 = c.pass.invariant.4 in
    let e3 = c.pass.invariant.2 in
    let e4 = ap (λ (z : Plan). length z.txns) (pass_plan _ _ _ _ c.pass.view_is c.requires.of c.self.view_is) in
    let e5 = c.self.invariant.8 in
    let few = c.pass.invariant.8 in (omega arith, omega arith)

pub returns : goal.returns
returns c =
    let p = c.pass.inside in
    let v : View = p.seat.me.0 in
    let key = told c.self.inside.table.shared.key in
    let last = c.close_with-closed.ensures.values.2 in
    let mine = pass_plan _ _ _ _ c.pass.view_is c.requires.of c.self.view_is in
    let same : v ≡ c.args.pass.view = ap (λ k. k.view) c.pass.view_is in
    let is = plan_is _ _ c.self.view_is in
    let layout = c.self.inside.table.shared.key.layout.value in
    let whole = last_is layout key (told p.about.value) v c.args.pass.view mine same c.pass.invariant.3 c.requires.complete c.requires.tried c.requires.free in
    let trace = traces (script_of layout key) last.0 p.seat.id v last.1.0 last.1.1 whole.complete whole.settled whole.done p.duty.items p.tried.items p.begins.items (run_at p.runs.items) c.pass.invariant.0 in
    let len : length c.as_slice-3.result.now ≡ length key.txns = ap length c.as_slice-3.ensures.value ∙ (c.pass.invariant.4 ∙ (c.pass.invariant.2 ∙ ap (λ (z : Plan). length z.txns) mine)) in
    let spans : map span_of c.spans_of-trace.result ≡ placed (run_at p.runs.items) (length key.txns) = c.spans_of-trace.ensures ∙ (λ i. placed (run_at (c.as_slice-3.ensures.value i)) (len i)) in
    let closes = closes_by layout key (told c.args.self.about) v c.args.pass.view (run_at p.runs.items) (map span_of c.spans_of-trace.result) is same c.self.invariant.4.lawful trace spans in
    record {
      outcomes = outcomes_are (told c.self.inside.about) c.read_all.new.outcomes (subst (λ a. IsLawfulPlan (told a)) (sym c.self.invariant.0) c.self.invariant.4.lawful) c.read_all.ensures.long c.read_all.ensures.each ∙ ap run_outcomes (ap told c.self.invariant.0 ∙ is);
      trace = closes.0;
      workers = closes.1;
    }
