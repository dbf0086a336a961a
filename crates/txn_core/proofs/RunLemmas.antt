-- A list of statements, one after another.
use Rattle.std.proofs.Common.{◌≡◌, ◌<◌, ◌≤◌, ◌+◌, ◌-◌, ℕ, suc, zero, List, [], ◌∷◌, length, drop, Ok, Err, slice_index_or, refl, sym, ap, ◌∙◌, arith, subst, length-append}
use Rattle.std.proofs.lemmas.List.{drop_more}
use Rattle.oxii_defs.specs.Syntax as meant
use Rattle.oxii_defs.specs.WellFormed.{Scope, scope_after, repeated, IsFine, AllFine}
use Rattle.oxii_defs.specs.Calls.{Call, Frame}
use Rattle.oxii_defs.specs.Running.{Answer, and_then, after, after_all, turns}
use Rattle.txn_types.specs.declared.txn.Reason.{Reason}
use Rattle.txn_core.specs.declared.syntax.Stmt.{Stmt}
use Rattle.txn_core.specs.Meant.{stmt_of, stmts_of}
use Rattle.txn_core.specs.Slots.{HasSlots, AllHaveSlots, depth_after, weight, weights}

-- the statements from a place on: that one, and the rest
pub rest_from : (xs : List Stmt) (i : ℕ) (x : Stmt) → i < length xs → x ≡ slice_index_or xs i x → drop i xs ≡ x ∷ drop (i + 1) xs
rest_from xs i x lt is = drop_more xs i x lt ∙ ap (λ y. y ∷ drop (i + 1) xs) (sym is)

pub all_step : (c : Call) (f g : Frame) (xs : List Stmt) (i : ℕ) (x : Stmt) → i < length xs → x ≡ slice_index_or xs i x →
    after c (stmt_of x) f ≡ Ok g → after_all c (stmts_of (drop (i + 1) xs)) g ≡ after_all c (stmts_of (drop i xs)) f
unfolding after
all_step c f g xs i x lt is e =
    sym (ap (λ l. after_all c (stmts_of l) f) (rest_from xs i x lt is) ∙ ap (λ r. and_then r (after_all c (stmts_of (drop (i + 1) xs)))) e)

pub all_stop : (c : Call) (f : Frame) (r : Reason) (xs : List Stmt) (i : ℕ) (x : Stmt) → i < length xs → x ≡ slice_index_or xs i x →
    after c (stmt_of x) f ≡ Err r → after_all c (stmts_of (drop i xs)) f ≡ Err r
unfolding after
all_stop c f r xs i x lt is e =
    ap (λ l. after_all c (stmts_of l) f) (rest_from xs i x lt is) ∙ ap (λ a. and_then a (after_all c (stmts_of (drop (i + 1) xs)))) e

pub all_done : (c : Call) (f : Frame) (xs : List Stmt) (i : ℕ) → length xs ≤ i → after_all c (stmts_of (drop i xs)) f ≡ Ok f
unfolding after
all_done c f [] zero le = refl
all_done c f [] (suc i) le = refl
all_done c f (x ∷ rest) zero le = absurd (omega arith)
all_done c f (x ∷ rest) (suc i) le = all_done c f rest i (omega arith)

pub slots_at : (n : ℕ) (xs : List Stmt) (i : ℕ) (x : Stmt) → i < length xs → x ≡ slice_index_or xs i x →
    AllHaveSlots n (stmts_of (drop i xs)) → HasSlots n (stmt_of x) × AllHaveSlots (depth_after n (stmt_of x)) (stmts_of (drop (i + 1) xs))
unfolding HasSlots
slots_at n xs i x lt is h = subst (λ l. AllHaveSlots n (stmts_of l)) (rest_from xs i x lt is) h

pub weight_at : (xs : List Stmt) (i : ℕ) (x : Stmt) → i < length xs → x ≡ slice_index_or xs i x → weight (stmt_of x) ≤ weights (stmts_of xs)
unfolding weight
weight_at [] i x lt is = absurd (omega arith)
weight_at (s ∷ rest) zero x lt is = omega (arith, ap (λ y. weight (stmt_of y)) is)
weight_at (s ∷ rest) (suc i) x lt is = let below : i < length rest = omega arith in omega (arith, weight_at rest i x below is)

-- a loop's turns: one, and the rest
one_more : (n i : ℕ) → i < n → n - i ≡ suc (n - (i + 1))
one_more n i lt = omega arith

-- the turns that are left: one, and the rest
pub turns_next : (n i : ℕ) (body : Frame → Answer Frame) (f : Frame) → i < n →
    turns (n - i) body f ≡ and_then (body f) (turns (n - (i + 1)) body)
turns_next n i body f lt = rw (one_more n i lt)

pub depth_grows : (n : ℕ) (s : meant.Stmt) → n ≤ depth_after n s
depth_grows n (meant.Let slot name value) = omega arith
depth_grows n (meant.SetLocal slot value) = omega arith
depth_grows n (meant.SetRec i value) = omega arith
depth_grows n (meant.Require test) = omega arith
depth_grows n (meant.If test first second) = omega arith
depth_grows n (meant.Repeat count body) = omega arith

-- WELL-FORMED OPERATIONS HAVE THEIR SLOTS

depth_is : (scope : Scope) (s : meant.Stmt) → length (scope_after scope s).visible ≡ depth_after (length scope.visible) s
depth_is scope (meant.Let slot name value) = length-append scope.visible (name ∷ [])
depth_is scope (meant.SetLocal slot value) = refl
depth_is scope (meant.SetRec i value) = refl
depth_is scope (meant.Require test) = refl
depth_is scope (meant.If test first second) = refl
depth_is scope (meant.Repeat count body) = refl

mutual
  unfolding HasSlots

  slots_of : (scope : Scope) (s : meant.Stmt) → IsFine scope s → HasSlots (length scope.visible) s
  slots_of scope (meant.Let slot name value) h = rw (← h.0) h.1
  slots_of scope (meant.SetLocal slot value) h = h.0
  slots_of scope (meant.SetRec i value) h = tt
  slots_of scope (meant.Require test) h = tt
  slots_of scope (meant.If test first second) h = (all_slots_of scope first h.1, all_slots_of scope second h.2)
  slots_of scope (meant.Repeat count body) h = all_slots_of (repeated scope count) body h.3

  pub all_slots_of : (scope : Scope) (body : meant.Stmts) → AllFine scope body → AllHaveSlots (length scope.visible) body
  all_slots_of scope meant.Done h = tt
  all_slots_of scope (meant.Then s rest) h = (slots_of scope s h.0, rw (← depth_is scope s) (all_slots_of (scope_after scope s) rest h.1))
