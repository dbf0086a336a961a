-- What the check of `opening_of` leaves to show.
use Rattle.std.proofs.Common.{◌≡◌, ◌∙◌, ◌<◌, ◌≤◌, ℕ, sym, ap, subst, length, get_or, arith, [], List, rules, false, Bool}
use Rattle.std.proofs.lemmas.List.{length-replicate}
use Rattle.txn_types.specs.Rising.{IsRising}
use Rattle.known_defs.specs.Known.{txn_at}
use Rattle.txn_types.specs.declared.txn.Txn.{Txn}
use Rattle.board_defs.specs.Closure.{Plan, is_own}
use Rattle.board_core.specs.Counts.{times, below}
use Rattle.board_core.specs.Words.{need}
use Rattle.board_core.specs.Steps.{planned}
use Rattle.board_work.specs.Scripts.{script, script_of, AreHeld}
use Rattle.board_work.specs.Plans.{plan_of}
use Rattle.board_words.proofs.Opens.{filled, rows_once, rows_low, need_is, flags_fit}
use Rattle.board_words.proofs.opening.opening_of.Goals as goal

pub count_needs-requires-clause-once : goal.count_needs-requires-clause-once
count_needs-requires-clause-once c = subst (λ (rs : List (List ℕ)). (s y : ℕ) → times y (get_or rs s []) ≤ 1) (sym c.as_slice-2.ensures) (rows_once (plan_of c.args.plan.now) c.in_ok-rows.rows c.in_ok-rows.ensures)

pub count_needs-requires-clause-low : goal.count_needs-requires-clause-low
count_needs-requires-clause-low c = subst (λ (rs : List (List ℕ)). (s y : ℕ) → 0 < times y (get_or rs s []) → y < length rs) (sym c.as_slice-2.ensures) (rows_low (plan_of c.args.plan.now) c.in_ok-rows.rows c.requires.planned.lawful.lawful c.in_ok-rows.ensures)

held_of : (plan : Plan) (txns : List Txn) → txns ≡ plan.txns → ((t : ℕ) → (length (txn_at txns t).reads ≤ 16) × (length (txn_at txns t).writes ≤ 16) × IsRising (txn_at txns t).writes) → AreHeld plan
held_of plan txns same sets = let here = subst (λ ts. (t : ℕ) → (length (txn_at ts t).reads ≤ 16) × (length (txn_at ts t).writes ≤ 16) × IsRising (txn_at ts t).writes) same sets in record { reads = λ t. (here t).0; writes = λ t. (here t).1; rising = λ t. (here t).2 }

pub fill_known-requires-clause-held : goal.fill_known-requires-clause-held
fill_known-requires-clause-held c = held_of (plan_of c.args.plan.now) c.as_slice.result.now c.as_slice.ensures c.all_sets_are_held.ensures

pub fill_known-requires-clause-room : goal.fill_known-requires-clause-room
fill_known-requires-clause-room c =
    let h = c.requires.planned.lawful in
    let l0 = ap length (c.in_ok-words.ensures.items_if_clones_equal (search rules)) ∙ length-replicate _ _ in
    let l1 = c.count_needs.ensures.same in
    let e1 = c.len-size.ensures in
    let e2 = c.len-records.ensures in
    (omega arith, omega arith, h.lawful.few, h.lawful.table.records)

pub returns-clause-words : goal.returns-clause-words
returns-clause-words c =
    let plan = plan_of c.args.plan.now in
    let h = c.requires.planned.lawful in
    let w0 = c.in_ok-words.words.items in
    let w1 = c.count_needs.new.words.items in
    let w2 = c.fill_known.new.words.items in
    let rows = c.in_ok-rows.rows in
    let zeros = c.in_ok-words.ensures.items_if_clones_equal (search rules) in
    let held = held_of plan c.as_slice.result.now c.as_slice.ensures c.all_sets_are_held.ensures in
    let fill = c.in_ok-fill_known.ensures in
    let l0 = ap length zeros ∙ length-replicate _ _ in
    let l1 = c.count_needs.ensures.same in
    let l2 = fill.same in
    let e1 = c.len-size.ensures in
    let e2 = c.len-records.ensures in
    filled c.args.layout plan _ w0 w1 w2 rows h held c.in_ok-rows.ensures zeros (omega arith, omega arith, h.lawful.few, h.lawful.table.records)
    (subst (λ (rs : List (List ℕ)). (t : ℕ) → need w1 t ≡ below (length rs) (λ s. times t (get_or rs s []))) c.as_slice-2.ensures c.count_needs.ensures.needs) c.count_needs.ensures.others fill

pub returns-clause-duty : goal.returns-clause-duty
returns-clause-duty c =
    let plan = plan_of c.args.plan.now in
    let w1 = c.count_needs.new.words.items in
    let rows = c.in_ok-rows.rows in
    let own_is = c.as_slice-3.ensures in
    let long = c.in_ok-duty.ensures.long ∙ (ap length own_is ∙ c.requires.planned.lawful.lawful.own_long) in
    let needs = subst (λ (rs : List (List ℕ)). (t : ℕ) → need w1 t ≡ below (length rs) (λ s. times t (get_or rs s []))) c.as_slice-2.ensures c.count_needs.ensures.needs in
    let held = held_of plan c.as_slice.result.now c.as_slice.ensures c.all_sets_are_held.ensures in
    let need_there : (t : ℕ) → need c.as_slice-4.result.now t ≡ planned (script plan) t = λ t. ap (λ (w : List ℕ). need w t) c.as_slice-4.ensures.value ∙ need_is plan w1 c.fill_known.new.words.items rows c.args.layout held c.in_ok-rows.ensures needs c.in_ok-fill_known.ensures t in
    let own_at : (t : ℕ) → get_or c.as_slice-3.result.now t false ≡ is_own plan t = λ t. ap (λ (o : List Bool). get_or o t false) own_is in (
      long,
      flags_fit (script_of c.args.layout plan) c.in_ok-duty.duty.items long (λ t l. let e = c.in_ok-duty.ensures.each t (omega (arith, l, c.in_ok-duty.ensures.long)) in (
        (λ is. let a = e.0 is in (sym (own_at t) ∙ a.0, sym (need_there t) ∙ a.1)),
        (λ own zero. e.1 (own_at t ∙ own) (need_there t ∙ zero)),
      )),
    )
