-- What the check of `Slots::inputs_at` leaves to show.
use Rattle.std.proofs.Common.{◌≡◌, ◌∙◌, ◌<◌, ℕ, ap, subst, arith, true, length, get_or}
use Rattle.txn_types.specs.declared.txn.Txn.{Txn}
use Rattle.oxii_defs.specs.State.{contains}
use Rattle.board_defs.specs.Closure.{IsLawfulPlan}
use Rattle.board_core.specs.Script.{serial_value}
use Rattle.board_work.specs.Scripts.{reads_at, script}
use Rattle.board_steps.specs.Abouts.{told}
use Rattle.board_steps.proofs.PartFacts.{contains_at}
use Rattle.script_laws.proofs.States.{serial_is}
use Rattle.board_frame.specs.Frames.{Standing}
use Rattle.board_frame.proofs.FrameFacts.{inputs_are, inputs_small}
use Rattle.version_slots.proofs.slots.Slots.inputs_at.Goals as goal

pub value_before-requires-clause-reads : goal.value_before-requires-clause-reads
value_before-requires-clause-reads c =
    let plan = told c.args.self.now.about in
    let t = c.args.t in
    let rs = c.as_slice-reads.result.now in
    let row = c.as_slice-reads.ensures.items ∙ (ap (λ (x : Txn). x.reads) c.held_txn.ensures ∙ ap (λ (b : Standing). reads_at (told b.about) t) c.self.view_is) in
    subst (λ xs. contains xs (get_or rs c.loop-k.k 0) ≡ true) row (contains_at rs c.loop-k.k c.loop-k-test.true)

pub returns-clause-values : goal.returns-clause-values
returns-clause-values c =
    let plan = told c.args.self.now.about in
    let t = c.args.t in
    let rs = c.as_slice-reads.result.now in
    let row = c.as_slice-reads.ensures.items ∙ (ap (λ (x : Txn). x.reads) c.held_txn.ensures ∙ ap (λ (b : Standing). reads_at (told b.about) t) c.self.view_is) in
    let place = c.holds.ensures.place in
    let size = ap (λ (b : Standing). length (told b.about).txns) c.self.view_is in
    let test = c.loop-k-test.false in
    let each : (k : ℕ) → k < length rs → get_or c.loop-k.out k 0 ≡ serial_value (script plan) t (get_or rs k 0) = λ k l. c.loop-k.invariant.2 k (omega arith) ∙ serial_is plan t (get_or rs k 0) (omega arith) in
    let room = c.as_slice-reads.ensures.room in
    let few = ap length c.as_slice-reads.ensures.items in
    let long = c.loop-k.invariant.3 in
    inputs_are plan t rs c.loop-k.out (omega arith) row (omega arith) each

pub returns-clause-range : goal.returns-clause-range
returns-clause-range c =
    let plan = told c.args.self.now.about in
    let t = c.args.t in
    let rs = c.as_slice-reads.result.now in
    let row = c.as_slice-reads.ensures.items ∙ (ap (λ (x : Txn). x.reads) c.held_txn.ensures ∙ ap (λ (b : Standing). reads_at (told b.about) t) c.self.view_is) in
    let place = c.holds.ensures.place in
    let size = ap (λ (b : Standing). length (told b.about).txns) c.self.view_is in
    let test = c.loop-k-test.false in
    let each : (k : ℕ) → k < length rs → get_or c.loop-k.out k 0 ≡ serial_value (script plan) t (get_or rs k 0) = λ k l. c.loop-k.invariant.2 k (omega arith) ∙ serial_is plan t (get_or rs k 0) (omega arith) in
    inputs_small plan t rs c.loop-k.out (subst (λ (b : Standing). IsLawfulPlan (told b.about)) c.self.view_is c.stands.ensures.lawful) (omega arith) row each
