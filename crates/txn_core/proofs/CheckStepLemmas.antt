-- The test of a list of statements, taken apart at the first.
use Rattle.std.proofs.Common.{◌≡◌, ◌<◌, ◌+◌, ◌-◌, ℕ, suc, take, Bool, true, ◌&&◌, List, [], ◌∷◌, length, drop, Result, Ok, Err, IfOk, slice_index_or, refl, sym, ap, ◌∙◌, arith}
use Rattle.std.proofs.lemmas.List.{take_all}
use Rattle.oxii_defs.specs.Syntax as meant
use Rattle.oxii_defs.specs.Syntax.{Name, Formal}
use Rattle.txn_core.specs.declared.syntax.Stmt.{Stmt}
use Rattle.txn_core.specs.Meant.{stmt_of, stmts_of}
use Rattle.txn_core.specs.Slots.{weight, weights}
use Rattle.txn_core.specs.Checked.{visible_after, fine, all_fine}

pub weight_pos : (s : meant.Stmt) → 0 < weight s
unfolding weight
weight_pos (meant.Let slot name e) = omega arith
weight_pos (meant.SetLocal i e) = omega arith
weight_pos (meant.SetRec i e) = omega arith
weight_pos (meant.Require p) = omega arith
weight_pos (meant.If p first second) = omega arith
weight_pos (meant.Repeat count body) = omega arith

pub weights_at : (xs : List Stmt) (x : Stmt) → 0 < length xs → x ≡ slice_index_or xs 0 x →
    weights (stmts_of xs) ≡ weight (stmt_of x) + weights (stmts_of (drop 1 xs))
unfolding weight
weights_at [] x lt is = absurd (omega (arith, lt))
weights_at (s ∷ rest) x lt is = ap (λ y. weight (stmt_of y) + weights (stmts_of rest)) (sym is)

-- the items from the first on
pub rest_is : (xs : List Stmt) → take (length xs - 1) (drop 1 xs) ≡ drop 1 xs
rest_is [] = refl
rest_is (x ∷ rest) = take_all (suc (length rest) - 1) rest (omega arith)

pub all_none : (params : List Formal) (turns : ℕ) (visible : List Name) (xs : List Stmt) → length xs < 1 → true ≡ all_fine params turns visible (stmts_of xs)
unfolding fine
all_none params turns visible [] lt = refl
all_none params turns visible (s ∷ rest) lt = absurd (omega (arith, lt))

all_at : (params : List Formal) (turns : ℕ) (visible : List Name) (xs : List Stmt) (x : Stmt) → 0 < length xs → x ≡ slice_index_or xs 0 x →
    fine params turns visible (stmt_of x) ≡ true → all_fine params turns (visible_after visible (stmt_of x)) (stmts_of (drop 1 xs)) ≡ all_fine params turns visible (stmts_of xs)
unfolding fine
all_at params turns visible [] x lt is e = absurd (omega (arith, lt))
all_at params turns visible (s ∷ rest) x lt is e =
    ap (λ b. b && all_fine params turns (visible_after visible (stmt_of x)) (stmts_of rest)) (sym e)
    ∙ ap (λ y. fine params turns visible (stmt_of y) && all_fine params turns (visible_after visible (stmt_of y)) (stmts_of rest)) is

pub after_first : {E : Type 0} (params : List Formal) (turns : ℕ) (visible : List Name) (xs : List Stmt) (x : Stmt) → 0 < length xs → x ≡ slice_index_or xs 0 x →
    fine params turns visible (stmt_of x) ≡ true → (r : Result Bool E) →
    IfOk r (λ v. v ≡ all_fine params turns (visible_after visible (stmt_of x)) (stmts_of (drop 1 xs))) →
    IfOk r (λ v. v ≡ all_fine params turns visible (stmts_of xs))
after_first params turns visible xs x lt is e (Ok v) h = h ∙ all_at params turns visible xs x lt is e
after_first params turns visible xs x lt is e (Err _) h = tt
