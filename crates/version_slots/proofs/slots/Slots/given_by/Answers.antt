-- What the check of `Slots::given_by` leaves to show.
use Rattle.std.proofs.Common.{◌≡◌, ◌∙◌, ap, sym, subst, arith, true, None}
use Rattle.oxii_defs.specs.State.{contains}
use Rattle.board_work.specs.Scripts.{reads_at, writes_at, outcome_at, gives}
use Rattle.board_steps.specs.Abouts.{told}
use Rattle.board_frame.specs.Frames.{Standing}
use Rattle.version_slots.specs.Places.{place_in}
use Rattle.version_slots.proofs.PlaceLemmas.{place_stands, no_version}
use Rattle.version_slots.proofs.WalkBack.{writes_there, version_set, version_given, version_back, cell_pos}
use Rattle.version_slots.proofs.slots.Slots.given_by.Goals as goal

pub returns-in_default-clause-given : goal.returns-in_default-clause-given
returns-in_default-clause-given c =
    let f = c.self.inside.frame.about in
    let plan = told f in
    let x = c.args.x in
    let r = c.args.r in
    let earlier = c.requires.earlier in
    let place_t = c.holds.ensures.place in
    let row = writes_there c.txns.result.now plan x c.index-txns-x.result c.as_slice-writes.result.now c.txns.ensures (omega arith) c.as_slice-writes.ensures.items in
    let none = no_version (outcome_at plan x) (writes_at plan x) r (ap (λ ws. place_in ws r) (sym row) ∙ (sym c.place_of.ensures ∙ c.in_default.is)) in
    subst (λ (b : Standing). None ≡ gives (outcome_at (told b.about) x) (writes_at (told b.about) x) r) c.self.view_is none

pub overflow_add-j : goal.overflow_add-j
overflow_add-j c =
    let f = c.self.inside.frame.about in
    let plan = told f in
    let x = c.args.x in
    let r = c.args.r in
    let earlier = c.requires.earlier in
    let place_t = c.holds.ensures.place in
    let row = writes_there c.txns.result.now plan x c.index-txns-x.result c.as_slice-writes.result.now c.txns.ensures (omega arith) c.as_slice-writes.ensures.items in
    let place = ap (λ ws. place_in ws r) (sym row) ∙ (sym c.place_of.ensures ∙ c.in-Some.is) in
    let l = (place_stands (writes_at plan x) r c.in-Some.j place).1 in
    let few = c.stands.ensures.held.writes x in
    omega arith

pub part_at-requires-clause-part : goal.part_at-requires-clause-part
part_at-requires-clause-part c =
    let f = c.self.inside.frame.about in
    let plan = told f in
    let x = c.args.x in
    let r = c.args.r in
    let earlier = c.requires.earlier in
    let place_t = c.holds.ensures.place in
    let row = writes_there c.txns.result.now plan x c.index-txns-x.result c.as_slice-writes.result.now c.txns.ensures (omega arith) c.as_slice-writes.ensures.items in
    let place = ap (λ ws. place_in ws r) (sym row) ∙ (sym c.place_of.ensures ∙ c.in-Some.is) in
    let l = (place_stands (writes_at plan x) r c.in-Some.j place).1 in
    let few = c.stands.ensures.held.writes x in
    (omega arith, omega arith, omega arith)

pub part_at-requires-clause-set : goal.part_at-requires-clause-set
part_at-requires-clause-set c =
    let f = c.self.inside.frame.about in
    let plan = told f in
    let x = c.args.x in
    let r = c.args.r in
    let earlier = c.requires.earlier in
    let place_t = c.holds.ensures.place in
    let row = writes_there c.txns.result.now plan x c.index-txns-x.result c.as_slice-writes.result.now c.txns.ensures (omega arith) c.as_slice-writes.ensures.items in
    let place = ap (λ ws. place_in ws r) (sym row) ∙ (sym c.place_of.ensures ∙ c.in-Some.is) in
    let reads = subst (λ (b : Standing). contains (reads_at (told b.about) c.args.t) r ≡ true) (sym c.self.view_is) c.requires.reads in
    version_set f c.stands.ensures.lawful c.args.t x r c.in-Some.j c.holds.ensures.runs earlier place reads c.self.invariant.0

pub read_cell-requires : goal.read_cell-requires
read_cell-requires c =
    let f = c.self.inside.frame.about in
    let plan = told f in
    let x = c.args.x in
    let r = c.args.r in
    let earlier = c.requires.earlier in
    let place_t = c.holds.ensures.place in
    let row = writes_there c.txns.result.now plan x c.index-txns-x.result c.as_slice-writes.result.now c.txns.ensures (omega arith) c.as_slice-writes.ensures.items in
    let place = ap (λ ws. place_in ws r) (sym row) ∙ (sym c.place_of.ensures ∙ c.in-Some.is) in
    let reads = subst (λ (b : Standing). contains (reads_at (told b.about) c.args.t) r ≡ true) (sym c.self.view_is) c.requires.reads in
    let given = version_given f c.stands.ensures.lawful c.args.t x r c.in-Some.j c.holds.ensures.runs earlier place reads c.stands.ensures.held c.part_at.result c.part_at.ensures.value in
    cell_pos (gives (outcome_at plan x) (writes_at plan x) r) c.part_at.result given

pub returns-clause-given : goal.returns-clause-given
returns-clause-given c =
    let f = c.self.inside.frame.about in
    let plan = told f in
    let x = c.args.x in
    let r = c.args.r in
    let earlier = c.requires.earlier in
    let place_t = c.holds.ensures.place in
    let row = writes_there c.txns.result.now plan x c.index-txns-x.result c.as_slice-writes.result.now c.txns.ensures (omega arith) c.as_slice-writes.ensures.items in
    let place = ap (λ ws. place_in ws r) (sym row) ∙ (sym c.place_of.ensures ∙ c.in-Some.is) in
    let reads = subst (λ (b : Standing). contains (reads_at (told b.about) c.args.t) r ≡ true) (sym c.self.view_is) c.requires.reads in
    let given = version_given f c.stands.ensures.lawful c.args.t x r c.in-Some.j c.holds.ensures.runs earlier place reads c.stands.ensures.held c.part_at.result c.part_at.ensures.value in
    subst (λ (b : Standing). c.read_cell.result ≡ gives (outcome_at (told b.about) x) (writes_at (told b.about) x) r) c.self.view_is
    (c.read_cell.ensures ∙ version_back (gives (outcome_at plan x) (writes_at plan x) r) c.part_at.result given)
