-- States after the outcomes of positions, read at one record.
use Rattle.std.proofs.Common.{◌≡◌, ℕ, zero, suc, Bool, true, false, cond, ◌==◌, ◌+◌, ◌<◌, ◌≤◌, List, [], ◌∷◌, ◌++◌, length, take, get_or, sym, refl, ap, ◌∙◌, arith, Option, Some, None}
use Rattle.std.proofs.lemmas.List.{take_more, length-take-le}
use Rattle.txn_types.specs.declared.txn.Outcome.{Outcome}
use Rattle.txn_types.specs.declared.txn.Outcome.TheVariants.{Abort, Commit}
use Rattle.txn_types.specs.declared.txn.Txn.{Txn}
use Rattle.oxii_defs.specs.State.{State, value_in, put}
use Rattle.oxii_defs.specs.Effects.{apply, put_all}
use Rattle.oxii_defs.proofs.States.{value_in-put}
use Rattle.known_defs.specs.Known.{txn_at, after_known}
use Rattle.board_defs.specs.Closure.{Plan, known_at, comes_to, closure_upto}
use Rattle.trace_laws.proofs.Plans.{closure_at, length_closure}
use Rattle.board_core.specs.Script.{or_else, value_at, serial_value}
use Rattle.board_work.specs.Scripts.{apply_known, later, given, gives, outcome_at, writes_at, state_before, script}

none_later : (g : Option ℕ) (b : Bool) (d : ℕ) → or_else g d ≡ or_else (later g (cond b None None)) d
none_later (Some x) b d = refl
none_later None true d = refl
none_later None false d = refl

some_later : (g : Option ℕ) (b : Bool) (v d : ℕ) → or_else g (cond b v d) ≡ or_else (later g (cond b (Some v) None)) d
some_later (Some x) b v d = refl
some_later None true v d = refl
some_later None false v d = refl

value_put_all : (ws : List ℕ) (cells : List (Option ℕ)) (s : State) (r : ℕ) → value_in (put_all s ws cells) r ≡ or_else (given ws cells r) (value_in s r)
value_put_all [] cells s r = refl
value_put_all (w ∷ ws) [] s r = refl
value_put_all (w ∷ ws) (None ∷ cells) s r = value_put_all ws cells s r ∙ none_later (given ws cells r) (r == w) (value_in s r)
value_put_all (w ∷ ws) (Some v ∷ cells) s r =
    value_put_all ws cells (put s w v) r ∙ (ap (or_else (given ws cells r)) (value_in-put s w v r) ∙ some_later (given ws cells r) (r == w) v (value_in s r))

pub value_apply : (s : State) (t : Txn) (o : Option Outcome) (r : ℕ) → value_in (apply_known s t o) r ≡ or_else (gives o t.writes r) (value_in s r)
value_apply s t None r = refl
value_apply s t (Some (Abort why)) r = refl
value_apply s t (Some (Commit cells)) r = value_put_all t.writes cells s r

pub after_nothing : (s : State) (ts : List Txn) → after_known s ts [] ≡ s
after_nothing s [] = refl
after_nothing s (t ∷ ts) = refl

-- one position more
pub after_known-push : (s : State) (ts : List Txn) (os : List (Option Outcome)) (o : Option Outcome) → length os < length ts → after_known s ts (os ++ o ∷ []) ≡ apply_known (after_known s ts os) (txn_at ts (length os)) o
after_known-push s [] os o l = absurd (omega arith)
after_known-push s (t ∷ ts) [] None l = after_nothing s ts
after_known-push s (t ∷ ts) [] (Some x) l = after_nothing (apply s t x) ts
after_known-push s (t ∷ ts) (None ∷ os) o l = after_known-push s ts os o (omega arith)
after_known-push s (t ∷ ts) (Some x ∷ os) o l = after_known-push (apply s t x) ts os o (omega arith)

-- the values after the first m positions
pub value_after : (s : State) (ts : List Txn) (os : List (Option Outcome)) (m r : ℕ) → m ≤ length os → m ≤ length ts →
    value_in (after_known s ts (take m os)) r ≡ value_at (value_in s) (λ t q. gives (get_or os t None) (txn_at ts t).writes q) m r
value_after s ts os zero r a b = ap (λ (u : State). value_in u r) (after_nothing s ts)
value_after s ts os (suc m) r a b =
    let len : length (take m os) ≡ m = length-take-le m os (omega arith) in
    let step : after_known s ts (take (suc m) os) ≡ apply_known (after_known s ts (take m os)) (txn_at ts m) (get_or os m None) =
    ap (after_known s ts) (ap (λ k. take k os) {x = suc m} {y = m + 1} (omega arith) ∙ take_more os m None (omega arith))
    ∙ (after_known-push s ts (take m os) (get_or os m None) (omega arith) ∙ ap (λ k. apply_known (after_known s ts (take m os)) (txn_at ts k) (get_or os m None)) len) in
    ap (λ (u : State). value_in u r) step
    ∙ (value_apply (after_known s ts (take m os)) (txn_at ts m) (get_or os m None) r
    ∙ ap (or_else (gives (get_or os m None) (txn_at ts m).writes r)) (value_after s ts os m r (omega arith) (omega arith)))

-- THE CLOSURE, position by position

abbrev pub comes_at : Plan → ℕ → Option Outcome
comes_at plan t = comes_to plan t (known_at plan t) (closure_upto plan t)

pub outcome_is : (plan : Plan) (t : ℕ) → t < length plan.txns → outcome_at plan t ≡ comes_at plan t
outcome_is plan t l = closure_at plan (length plan.txns) t l

pub at_earlier : (plan : Plan) (m t : ℕ) → t < m → m ≤ length plan.txns → get_or (closure_upto plan m) t None ≡ outcome_at plan t
at_earlier plan m t l le = closure_at plan m t l ∙ sym (outcome_is plan t (omega arith))

-- the value of a record in the state in which t runs is the serial one
pub serial_is : (plan : Plan) (t r : ℕ) → t ≤ length plan.txns → value_in (state_before plan t) r ≡ serial_value (script plan) t r
serial_is plan zero r l = ap (λ (u : State). value_in u r) (after_nothing plan.base plan.txns)
serial_is plan (suc t) r l =
    let len = length_closure plan t in
    ap (λ (u : State). value_in u r) (after_known-push plan.base plan.txns (closure_upto plan t) (comes_at plan t) (omega arith) ∙ ap (λ k. apply_known (state_before plan t) (txn_at plan.txns k) (comes_at plan t)) len)
    ∙ (value_apply (state_before plan t) (txn_at plan.txns t) (comes_at plan t) r
    ∙ (ap (λ o. or_else (gives o (writes_at plan t) r) (value_in (state_before plan t) r)) (sym (outcome_is plan t (omega arith)))
    ∙ ap (or_else (gives (outcome_at plan t) (writes_at plan t) r)) (serial_is plan t r (omega arith))))
