-- What the check of `Frame::inputs_at` leaves to show.
use Rattle.std.proofs.Common.{◌≡◌, ◌<◌, ◌∙◌, ap, subst, get_or, length, ℕ, arith}
use Rattle.txn_types.specs.declared.txn.Txn.{Txn}
use Rattle.board_core.specs.Script.{serial_value}
use Rattle.board_steps.specs.Abouts.{told}
use Rattle.board_defs.specs.Closure.{IsLawfulPlan}
use Rattle.board_work.specs.Scripts.{script}
use Rattle.board_frame.proofs.FrameFacts.{plan_is, reads_there, inputs_are, inputs_small}
use Rattle.board_frame.proofs.frame.Frame.inputs_at.Goals as goal

pub load_all-requires-clause-records : goal.load_all-requires-clause-records
load_all-requires-clause-records c = reads_there (told c.self.inside.table.shared.key) (told c.args.self.now.about) c.args.t c.held_txn-txn.result.now c.as_slice.result.now (plan_is _ _ c.self.view_is) c.self.invariant.4.lawful c.held_txn-txn.ensures c.as_slice.ensures.items

pub returns-clause-values : goal.returns-clause-values
returns-clause-values c =
    let room = c.as_slice.ensures.room in
    let few = ap length c.as_slice.ensures.items in
    inputs_are (told c.args.self.now.about) c.args.t c.as_slice.result.now c.load_all.new.out c.holds.ensures.place (c.as_slice.ensures.items ∙ ap (λ (y : Txn). y.reads) c.held_txn-txn.ensures) (omega arith)
    (subst (λ z. (k : ℕ) → k < length c.as_slice.result.now → get_or c.load_all.new.out k 0 ≡ serial_value (script z) c.args.t (get_or c.as_slice.result.now k 0)) (plan_is _ _ c.self.view_is) c.load_all.ensures.values)

pub returns-clause-range : goal.returns-clause-range
returns-clause-range c =
    inputs_small (told c.args.self.now.about) c.args.t c.as_slice.result.now c.load_all.new.out (subst IsLawfulPlan (plan_is _ _ c.self.view_is) c.self.invariant.4.lawful) c.holds.ensures.place (c.as_slice.ensures.items ∙ ap (λ (y : Txn). y.reads) c.held_txn-txn.ensures)
    (subst (λ z. (k : ℕ) → k < length c.as_slice.result.now → get_or c.load_all.new.out k 0 ≡ serial_value (script z) c.args.t (get_or c.as_slice.result.now k 0)) (plan_is _ _ c.self.view_is) c.load_all.ensures.values)
