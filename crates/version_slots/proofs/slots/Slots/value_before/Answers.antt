-- What the check of `Slots::value_before` leaves to show.
use Rattle.std.proofs.Common.{◌≡◌, ◌∙◌, ap, sym, subst, arith, true, length, get_or}
use Rattle.oxii_defs.specs.State.{contains, value_in}
use Rattle.txn_core.proofs.StateLemmas.{value_of_state}
use Rattle.board_work.specs.Scripts.{reads_at, script}
use Rattle.board_steps.specs.Abouts.{told}
use Rattle.script_laws.proofs.States.{serial_is}
use Rattle.board_frame.specs.Frames.{Standing}
use Rattle.version_slots.proofs.WalkBack.{back_more, back_found, back_ended, reads_below}
use Rattle.version_slots.proofs.slots.Slots.value_before.Goals as goal

pub returns-in-Some-clause-value : goal.returns-in-Some-clause-value
returns-in-Some-clause-value c =
    let plan = told c.args.self.now.about in
    let t = c.args.t in
    let r = c.args.r in
    let d = c.loop-d.d in
    let place = c.holds.ensures.place in
    let size = ap (λ (b : Standing). length (told b.about).txns) c.self.view_is in
    let serial = sym (serial_is plan t r (omega arith)) in
    back_found (script plan) t r d c.in-Some.value c.loop-d-test.true c.loop-d.invariant.2 (sym c.in-Some.is ∙ c.given_by.ensures.given) ∙ serial

pub loop-d-preserved : goal.loop-d-preserved
loop-d-preserved c =
    let plan = told c.args.self.now.about in
    (c.given_by.ensures.of, c.given_by.ensures.same ∙ c.loop-d.invariant.1, back_more (script plan) c.args.t c.args.r c.loop-d.d c.loop-d-test.true c.loop-d.invariant.2 (sym c.in_default.is ∙ c.given_by.ensures.given))

pub bounds-as_slice-r : goal.bounds-as_slice-r
bounds-as_slice-r c =
    let plan = told c.self.inside.frame.about in
    let reads = subst (λ (b : Standing). contains (reads_at (told b.about) c.args.t) c.args.r ≡ true) (sym c.self.view_is) c.requires.reads in
    let low = reads_below plan c.stands.ensures.lawful c.args.t c.args.r reads in
    let long = c.self.invariant.2 in
    let same = ap length c.as_slice.ensures.items in
    omega arith

pub returns-clause-value : goal.returns-clause-value
returns-clause-value c =
    let plan = told c.args.self.now.about in
    let t = c.args.t in
    let r = c.args.r in
    let d = c.loop-d.d in
    let place = c.holds.ensures.place in
    let size = ap (λ (b : Standing). length (told b.about).txns) c.self.view_is in
    let serial = sym (serial_is plan t r (omega arith)) in
    let test = c.loop-d-test.false in
    let value = ap (λ xs. get_or xs r 0) c.as_slice.ensures.items ∙ (sym (value_of_state c.self.inside.base r) ∙ ap (λ s. value_in s r) (c.self.invariant.1 ∙ ap (λ (b : Standing). (told b.about).base) c.self.view_is)) in
    back_ended plan t r d _ (omega arith) c.loop-d.invariant.2 value ∙ serial
