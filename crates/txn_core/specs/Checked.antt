-- Well-formed operations, as a test by cases on the syntax.
use Rattle.std.specs.Prelude.{ℕ, ◌*◌, Bool, true, false, not, ◌&&◌, nat_lt, nat_le, ◌==◌, List, [], ◌∷◌, ◌++◌, length, map, Option, Some, None, slice_get}
use Rattle.txn_types.specs.declared.txn.Arg.{Arg}
use Rattle.txn_types.specs.declared.txn.Arg.TheVariants as arg
use Rattle.txn_types.specs.Values.{max_value, max_turns}
use Rattle.oxii_defs.specs.Syntax.{Name, Expr, Num, Param, Local, Rec, Calc, Cond, Cmp, And, Or, Not, Stmt, Let, SetLocal, SetRec, Require, If, Repeat, Stmts, Done, Then, ParamKind, RecKind, NumKind, Formal}
use Rattle.oxii_defs.specs.NameLists.{is_named}

abbrev pub same_kind : ParamKind → ParamKind → Bool
same_kind RecKind RecKind = true
same_kind NumKind NumKind = true
same_kind _ _ = false

abbrev pub kind_at : Option Formal → ParamKind → Bool
kind_at None kind = false
kind_at (Some p) kind = same_kind p.kind kind

abbrev pub has_kind : List Formal → ℕ → ParamKind → Bool
has_kind params i kind = kind_at (slice_get params i) kind

-- the locals that are visible after a statement
abbrev pub visible_after : List Name → Stmt → List Name
visible_after visible (Let slot name e) = visible ++ name ∷ []
visible_after visible _ = visible

module _ (params : List Formal) where
  unfoldable pub fine_expr : List Name → Expr → Bool
  fine_expr visible (Num n) = nat_le n max_value
  fine_expr visible (Param i) = has_kind params i NumKind
  fine_expr visible (Local i) = nat_lt i (length visible)
  fine_expr visible (Rec i) = has_kind params i RecKind
  fine_expr visible (Calc op a b) = fine_expr visible a && fine_expr visible b

  unfoldable pub fine_cond : List Name → Cond → Bool
  fine_cond visible (Cmp op a b) = fine_expr visible a && fine_expr visible b
  fine_cond visible (And p q) = fine_cond visible p && fine_cond visible q
  fine_cond visible (Or p q) = fine_cond visible p && fine_cond visible q
  fine_cond visible (Not p) = fine_cond visible p

  abbrev pub is_new : List Name → Name → Bool
  is_new visible name = not (is_named (map (λ p. p.name) params) name) && not (is_named visible name)

  unfoldable mutual
    pub fine : ℕ → List Name → Stmt → Bool
    fine turns visible (Let slot name e) = (slot == length visible) && (nat_lt slot 32 && (is_new visible name && fine_expr visible e))
    fine turns visible (SetLocal i e) = nat_lt i (length visible) && fine_expr visible e
    fine turns visible (SetRec i e) = has_kind params i RecKind && fine_expr visible e
    fine turns visible (Require p) = fine_cond visible p
    fine turns visible (If p first second) = fine_cond visible p && (all_fine turns visible first && all_fine turns visible second)
    fine turns visible (Repeat count body) = nat_lt 0 count && (nat_le count 64 && (nat_le (turns * count) max_turns && all_fine (turns * count) visible body))

    pub all_fine : ℕ → List Name → Stmts → Bool
    all_fine turns visible Done = true
    all_fine turns visible (Then s rest) = fine turns visible s && all_fine turns (visible_after visible s) rest

abbrev pub all_differ : List Name → Bool
all_differ [] = true
all_differ (x ∷ rest) = not (is_named rest x) && all_differ rest

abbrev pub match_all : List Formal → List Arg → Bool
match_all [] [] = true
match_all (p ∷ params) (arg.Rec r ∷ args) = same_kind p.kind RecKind && match_all params args
match_all (p ∷ params) (arg.Num n ∷ args) = same_kind p.kind NumKind && (nat_le n max_value && match_all params args)
match_all _ _ = false
