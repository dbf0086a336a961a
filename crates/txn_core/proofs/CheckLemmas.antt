-- The test of well-formed operations decides whether one is.
use Rattle.std.proofs.Common.{◌≡◌, ◌≤◌, ◌*◌, ℕ, zero, suc, Bool, true, false, ◌&&◌, nat_le, nat_eq, List, [], ◌∷◌, length, map, Option, Some, Result, Ok, Err, IfOk, Contains, refl, sym, ap, ◌∙◌, arith, subst}
use Rattle.std.specs.Bool.{Decides}
use Rattle.std.specs.Cmp.Lexicographic.{pointwise, bytes_decides}
use Rattle.std.proofs.lemmas.List.{get_or_default}
use Rattle.std.proofs.lemmas.Bool.Decides.{Decides-and, Decides-not, Decides-like, Decides-ltb, Decides-eqb, Decides-by_or, nat_tests}
use Rattle.oxii_defs.specs.Syntax.{Name, Expr, Num, Param, Local, Rec, Calc, Cond, Cmp, And, Or, Not, Stmt, Let, SetLocal, SetRec, Require, If, Repeat, Stmts, Done, Then, ParamKind, RecKind, NumKind, Formal, Op}
use Rattle.oxii_defs.specs.WellFormed.{Scope, HasKind, IsFineExpr, IsFineCond, IsNew, scope_after, IsFine, AllFine, IsWellFormed, Match}
use Rattle.oxii_defs.specs.NameLists.{AllDiffer, is_named}
use Rattle.txn_types.specs.declared.txn.Arg.{Arg}
use Rattle.txn_types.specs.declared.txn.Arg.TheVariants as arg
use Rattle.txn_types.specs.Values.{max_value, max_turns}
use Rattle.txn_core.specs.Checked.{same_kind, has_kind, fine_expr, fine_cond, is_new, visible_after, fine, all_fine, all_differ, match_all}

abbrev scope_of : List Formal → ℕ → List Name → Scope
scope_of params turns visible = record { params = params; visible = visible; turns = turns }

-- a list of facts, each with its test
Decides-and3 : {P Q R : Type 0} (x y z : Bool) → Decides x P → Decides y Q → Decides z R → Decides (x && (y && z)) (P × Q × R)
Decides-and3 x y z p q r = Decides-like _ (λ h. (h.0, h.1.0, h.1.1)) (λ h. (h.0, (h.1, h.2))) (Decides-and x _ p (Decides-and y z q r))

Decides-and4 : {P Q R S : Type 0} (x y z w : Bool) → Decides x P → Decides y Q → Decides z R → Decides w S → Decides (x && (y && (z && w))) (P × Q × R × S)
Decides-and4 x y z w p q r s = Decides-like _ (λ h. (h.0, h.1.0, h.1.1, h.1.2)) (λ h. (h.0, (h.1, h.2, h.3))) (Decides-and x _ p (Decides-and3 y z w q r s))

le_decides : (a b : ℕ) → Decides (nat_le a b) (a ≤ b)
le_decides a b = (λ e. grind (arith, nat_tests), λ h. grind (arith, nat_tests))

names_decide : (names : List Name) (name : Name) → Decides (is_named names name) (Contains names name)
names_decide names name = Decides-like _
    (λ h. (h.0, h.1, h.2 name))
    (λ h. (h.0, h.1, λ d. get_or_default names h.0 d name h.1 ∙ h.2))
    (Decides-by_or (λ x. pointwise nat_eq x name) (λ x. x ≡ name) (λ l. is_named l name) (λ x. bytes_decides x name) refl (λ _ _. refl) names)

kind_decides : (a b : ParamKind) → Decides (same_kind a b) (a ≡ b)
kind_decides RecKind RecKind = (λ e. refl, λ e. refl)
kind_decides RecKind NumKind = (λ e. cc, λ e. cc)
kind_decides NumKind RecKind = (λ e. cc, λ e. cc)
kind_decides NumKind NumKind = (λ e. refl, λ e. refl)

some_same : (a b : ParamKind) → ◌≡◌ {A = Option ParamKind} (Some a) (Some b) → a ≡ b
some_same a b e = cc

kind_at_decides : (params : List Formal) (i : ℕ) (kind : ParamKind) → Decides (has_kind params i kind) (HasKind params i kind)
kind_at_decides [] i kind = (λ e. cc, λ e. cc)
kind_at_decides (p ∷ rest) zero kind = Decides-like _ (ap Some) (some_same p.kind kind) (kind_decides p.kind kind)
kind_at_decides (p ∷ rest) (suc i) kind = kind_at_decides rest i kind

module _ (params : List Formal) where
  expr_decides : (turns : ℕ) (visible : List Name) (e : Expr) → Decides (fine_expr params visible e) (IsFineExpr (scope_of params turns visible) e)
  unfolding fine_expr
  expr_decides turns visible (Num n) = le_decides n max_value
  expr_decides turns visible (Param i) = kind_at_decides params i NumKind
  expr_decides turns visible (Local i) = Decides-ltb i _
  expr_decides turns visible (Rec i) = kind_at_decides params i RecKind
  expr_decides turns visible (Calc op a b) = Decides-and _ _ (expr_decides turns visible a) (expr_decides turns visible b)

  cond_decides : (turns : ℕ) (visible : List Name) (p : Cond) → Decides (fine_cond params visible p) (IsFineCond (scope_of params turns visible) p)
  unfolding fine_cond
  cond_decides turns visible (Cmp op a b) = Decides-and _ _ (expr_decides turns visible a) (expr_decides turns visible b)
  cond_decides turns visible (And p q) = Decides-and _ _ (cond_decides turns visible p) (cond_decides turns visible q)
  cond_decides turns visible (Or p q) = Decides-and _ _ (cond_decides turns visible p) (cond_decides turns visible q)
  cond_decides turns visible (Not p) = cond_decides turns visible p

  new_decides : (turns : ℕ) (visible : List Name) (name : Name) → Decides (is_new params visible name) (IsNew (scope_of params turns visible) name)
  new_decides turns visible name = Decides-and _ _ (Decides-not _ (names_decide (map (λ p. p.name) params) name)) (Decides-not _ (names_decide visible name))

  scope_is : (turns : ℕ) (visible : List Name) (s : Stmt) → scope_of params turns (visible_after visible s) ≡ scope_after (scope_of params turns visible) s
  scope_is turns visible (Let slot name e) = refl
  scope_is turns visible (SetLocal i e) = refl
  scope_is turns visible (SetRec i e) = refl
  scope_is turns visible (Require p) = refl
  scope_is turns visible (If p first second) = refl
  scope_is turns visible (Repeat count body) = refl

  mutual
    unfolding fine

    fine_decides : (turns : ℕ) (visible : List Name) (s : Stmt) → Decides (fine params turns visible s) (IsFine (scope_of params turns visible) s)
    fine_decides turns visible (Let slot name e) =
        Decides-and4 _ _ _ _ (Decides-eqb slot _) (Decides-ltb slot 32) (new_decides turns visible name) (expr_decides turns visible e)
    fine_decides turns visible (SetLocal i e) = Decides-and _ _ (Decides-ltb i _) (expr_decides turns visible e)
    fine_decides turns visible (SetRec i e) = Decides-and _ _ (kind_at_decides params i RecKind) (expr_decides turns visible e)
    fine_decides turns visible (Require p) = cond_decides turns visible p
    fine_decides turns visible (If p first second) =
        Decides-and3 _ _ _ (cond_decides turns visible p) (all_decides turns visible first) (all_decides turns visible second)
    fine_decides turns visible (Repeat count body) =
        Decides-and4 _ _ _ _ (Decides-ltb 0 count) (le_decides count 64) (le_decides (turns * count) max_turns) (all_decides (turns * count) visible body)

    all_decides : (turns : ℕ) (visible : List Name) (body : Stmts) → Decides (all_fine params turns visible body) (AllFine (scope_of params turns visible) body)
    all_decides turns visible Done = (λ e. tt, λ h. refl)
    all_decides turns visible (Then s rest) =
        Decides-and _ _ (fine_decides turns visible s)
        (subst (λ scope. Decides (all_fine params turns (visible_after visible s) rest) (AllFine scope rest)) (scope_is turns visible s) (all_decides turns (visible_after visible s) rest))

pub differ_decides : (names : List Name) → Decides (all_differ names) (AllDiffer names)
differ_decides [] = (λ e. tt, λ h. refl)
differ_decides (x ∷ rest) = Decides-and _ _ (Decides-not _ (names_decide rest x)) (differ_decides rest)

pub match_decides : (params : List Formal) (args : List Arg) → Decides (match_all params args) (Match params args)
match_decides [] [] = (λ e. tt, λ h. refl)
match_decides [] (a ∷ args) = (λ e. cc, λ h. absurd h)
match_decides (p ∷ params) [] = (λ e. cc, λ h. absurd h)
match_decides (p ∷ params) (arg.Rec r ∷ args) = Decides-and _ _ (kind_decides p.kind RecKind) (match_decides params args)
match_decides (p ∷ params) (arg.Num n ∷ args) = Decides-and3 _ _ _ (kind_decides p.kind NumKind) (le_decides n max_value) (match_decides params args)

-- THE WHOLE OPERATION

pub not_differing : (op : Op) → all_differ (map (λ p. p.name) op.params) ≡ false → Decides false (IsWellFormed op)
not_differing op same = (λ e. cc, λ h. sym same ∙ (differ_decides _).1 h.names)

well_formed_decides : (op : Op) → length op.params ≤ 16 → all_differ (map (λ p. p.name) op.params) ≡ true → (verdict : Bool) → verdict ≡ all_fine op.params 1 [] op.body →
    Decides verdict (IsWellFormed op)
well_formed_decides op few differ verdict is =
    let body = all_decides op.params 1 [] op.body in
    (λ e. record { count = few; names = (differ_decides _).0 differ; body = body.0 (sym is ∙ e) }, λ h. is ∙ body.1 h.body)

pub if_fine : {E : Type 0} (op : Op) → length op.params ≤ 16 → all_differ (map (λ p. p.name) op.params) ≡ true → (r : Result Bool E) →
    IfOk r (λ verdict. verdict ≡ all_fine op.params 1 [] op.body) → IfOk r (λ verdict. Decides verdict (IsWellFormed op))
if_fine op few differ (Ok verdict) is = well_formed_decides op few differ verdict is
if_fine op few differ (Err _) is = tt
