-- The tree of the typed operation is the tree that was read, but for the bytes.
use Rattle.std.proofs.Common.{◌≡◌, ℕ, suc, ◌+◌, true, false, nat_eq, List, [], ◌∷◌, ◌++◌, map, Option, Some, None, refl, sym, ap, ◌∙◌, subst, arith, append_assoc, if◌then◌else◌}
use Rattle.std.specs.Cmp.Lexicographic.{pointwise, bytes_decides}
use Rattle.std.proofs.lemmas.List.{append-nil}
use Rattle.contract_grammar.specs.declared.token.Operator.{Operator}
use Rattle.contract_grammar.specs.declared.token.Operator.TheVariants.{Or, And, Equal, NotEqual, Less, LessEqual, Greater, GreaterEqual, Plus, Minus, Times, Divide, Remainder}
use Rattle.contract_grammar.specs.declared.tree.ParamKind.{ParamKind}
use Rattle.contract_grammar.specs.declared.tree.ParamKind.TheVariants as kind
use Rattle.contract_grammar.specs.declared.tree.Param.{Param}
use Rattle.contract_grammar.specs.Tree as raw
use Rattle.contract_grammar.specs.Tree.{Tree, number, name, negation, binary, Statement, define, assign, demand, choose, again, Statements, nil, then_one}
use Rattle.contract_grammar.specs.Grammar.{head, parameter}
use Rattle.oxii_defs.specs.Syntax as meant
use Rattle.contract_text.specs.declared.flaws.ValueKind.TheVariants as value
use Rattle.contract_text.specs.declared.symbols.Symbol.{Symbol}
use Rattle.contract_text.specs.declared.symbols.Symbol.TheVariants as symbol
use Rattle.contract_text.specs.Symbols.{parameter_symbol, among_params, among_locals, or_else, symbol_of, is_found, made, made_by}
use Rattle.contract_text.specs.Flaws.{result_kind, operand_kind, kind_flaws, name_flaws, expr_flaws, target_flaws, double_flaws, stmt_flaws, all_flaws, param_flaws, op_flaws, flaws_behind}
use Rattle.contract_text.specs.Typed.{calculation, used, calculated, typed_expr, typed_cond, assigned, sequence, typed_stmt, typed_all, typed_kind, formal, typed_op}
use Rattle.contract_printer.specs.Plain.{plain_operator, param_name, local_name, plain_expr, plain_cond, visible_after, ahead, plain_stmt, plain_all, plain_kind, plain_param, plain_op}
use Rattle.contract_printer.proofs.Bare.{bare, bare_stmt, bare_all, bare_param, bare_op}

not_empty : {A : Type 0} (x : A) (xs : List A) → ◌≡◌ {A = List A} (x ∷ xs) [] → ⊥
not_empty x xs e = cc

pub empty_parts : {A : Type 0} (xs ys : List A) → xs ++ ys ≡ [] → (xs ≡ []) × (ys ≡ [])
empty_parts [] ys e = (refl, e)
empty_parts (x ∷ xs) ys e = absurd (not_empty x (xs ++ ys) e)

some_is : {A : Type 0} (a b : A) → ◌≡◌ {A = Option A} (Some a) (Some b) → a ≡ b
some_is a b e = cc

none_is : {A : Type 0} (a : A) → ◌≡◌ {A = Option A} None (Some a) → ⊥
none_is a e = cc

-- ---- names

-- a parameter by its place behind so many has this name
abbrev InParams : ℕ → List meant.Formal → List ℕ → Symbol → Type 0
InParams place formals x (symbol.Rec i) = (j : ℕ) × (i ≡ place + j) × (param_name formals j ≡ x)
InParams place formals x (symbol.Num i) = (j : ℕ) × (i ≡ place + j) × (param_name formals j ≡ x)
InParams place formals x (symbol.Local i) = ⊥

param_here : (k : ParamKind) (place : ℕ) (p : meant.Formal) (formals : List meant.Formal) (x : List ℕ) → p.name ≡ x → InParams place (p ∷ formals) x (parameter_symbol k place)
param_here kind.Record place p formals x is = (0, omega arith, is)
param_here kind.Number place p formals x is = (0, omega arith, is)

param_next : (s : Symbol) (place : ℕ) (p : meant.Formal) (formals : List meant.Formal) (x : List ℕ) → InParams (place + 1) formals x s → InParams place (p ∷ formals) x s
param_next (symbol.Rec i) place p formals x h = (suc h.0, omega (arith, h.1), h.2)
param_next (symbol.Num i) place p formals x h = (suc h.0, omega (arith, h.1), h.2)
param_next (symbol.Local i) place p formals x h = h

in_params : (ps : List Param) (place : ℕ) (x : List ℕ) (s : Symbol) → among_params place ps x ≡ Some s → InParams place (map formal ps) x s
in_params [] place x s e = absurd (none_is s e)
in_params (p ∷ ps) place x s e =
    elim (pointwise nat_eq p.name x) as (λ b. (b ≡ true → p.name ≡ x) → (if b then Some (parameter_symbol p.kind place) else among_params (place + 1) ps x) ≡ Some s → InParams place (map formal (p ∷ ps)) x s) [
      | true ↦ λ is h. subst (InParams place (map formal (p ∷ ps)) x) (some_is _ _ h) (param_here p.kind place (formal p) (map formal ps) x (is refl))
      | false ↦ λ is h. param_next s place (formal p) (map formal ps) x (in_params ps (place + 1) x s h)
    ] (bytes_decides p.name x).0 e

-- a local by its place behind so many has this name
abbrev InLocals : ℕ → List (List ℕ) → List ℕ → Symbol → Type 0
InLocals place locals x (symbol.Rec i) = ⊥
InLocals place locals x (symbol.Num i) = ⊥
InLocals place locals x (symbol.Local i) = (j : ℕ) × (i ≡ place + j) × (local_name locals j ≡ x)

local_next : (s : Symbol) (place : ℕ) (y : List ℕ) (locals : List (List ℕ)) (x : List ℕ) → InLocals (place + 1) locals x s → InLocals place (y ∷ locals) x s
local_next (symbol.Rec i) place y locals x h = h
local_next (symbol.Num i) place y locals x h = h
local_next (symbol.Local i) place y locals x h = (suc h.0, omega (arith, h.1), h.2)

local_here : (place : ℕ) (y : List ℕ) (locals : List (List ℕ)) (x : List ℕ) → y ≡ x → InLocals place (y ∷ locals) x (symbol.Local place)
local_here place y locals x is = (0, omega arith, is)

in_locals : (locals : List (List ℕ)) (place : ℕ) (x : List ℕ) (s : Symbol) → among_locals place locals x ≡ Some s → InLocals place locals x s
in_locals [] place x s e = absurd (none_is s e)
in_locals (y ∷ ys) place x s e =
    elim (pointwise nat_eq y x) as (λ b. (b ≡ true → y ≡ x) → (if b then Some (symbol.Local place) else among_locals (place + 1) ys x) ≡ Some s → InLocals place (y ∷ ys) x s) [
      | true ↦ λ is h. subst (InLocals place (y ∷ ys) x) (some_is _ _ h) (local_here place y ys x (is refl))
      | false ↦ λ is h. local_next s place y ys x (in_locals ys (place + 1) x s h)
    ] (bytes_decides y x).0 e

-- what a name stands for has the name
abbrev Has : List meant.Formal → List (List ℕ) → List ℕ → Symbol → Type 0
Has formals locals x (symbol.Rec i) = param_name formals i ≡ x
Has formals locals x (symbol.Num i) = param_name formals i ≡ x
Has formals locals x (symbol.Local i) = local_name locals i ≡ x

param_has : (formals : List meant.Formal) (locals : List (List ℕ)) (x : List ℕ) (s : Symbol) → InParams 0 formals x s → Has formals locals x s
param_has formals locals x (symbol.Rec i) h = let is : i ≡ h.0 = omega (arith, h.1) in rw is h.2
param_has formals locals x (symbol.Num i) h = let is : i ≡ h.0 = omega (arith, h.1) in rw is h.2
param_has formals locals x (symbol.Local i) h = absurd h

local_has : (formals : List meant.Formal) (locals : List (List ℕ)) (x : List ℕ) (s : Symbol) → InLocals 0 locals x s → Has formals locals x s
local_has formals locals x (symbol.Rec i) h = absurd h
local_has formals locals x (symbol.Num i) h = absurd h
local_has formals locals x (symbol.Local i) h = let is : i ≡ h.0 = omega (arith, h.1) in rw is h.2

has : (params : List Param) (locals : List (List ℕ)) (x : List ℕ) (s : Symbol) → symbol_of params locals x ≡ Some s → Has (map formal params) locals x s
has params locals x s e =
    elim (among_params 0 params x) as (λ o. ((z : Symbol) → o ≡ Some z → InParams 0 (map formal params) x z) → or_else o (among_locals 0 locals x) ≡ Some s → Has (map formal params) locals x s) [
      | None ↦ λ f h. local_has (map formal params) locals x s (in_locals locals 0 x s h)
      | Some z ↦ λ f h. param_has (map formal params) locals x s (f s h)
    ] (in_params params 0 x) e

-- ---- expressions

record IsCalculation (op : Operator) : Type 0 where
  operator : meant.Operator
  is : calculation op ≡ Some operator
  back : plain_operator operator ≡ op
  operands : operand_kind op ≡ value.Number

number_operator : (op : Operator) (at : ℕ) → kind_flaws (result_kind op) value.Number at ≡ [] → IsCalculation op
number_operator Plus at e = record { operator = meant.Add; is = refl; back = refl; operands = refl }
number_operator Minus at e = record { operator = meant.Sub; is = refl; back = refl; operands = refl }
number_operator Times at e = record { operator = meant.Mul; is = refl; back = refl; operands = refl }
number_operator Divide at e = record { operator = meant.Div; is = refl; back = refl; operands = refl }
number_operator Remainder at e = record { operator = meant.Rem; is = refl; back = refl; operands = refl }
number_operator Or at e = absurd (not_empty _ _ e)
number_operator And at e = absurd (not_empty _ _ e)
number_operator Equal at e = absurd (not_empty _ _ e)
number_operator NotEqual at e = absurd (not_empty _ _ e)
number_operator Less at e = absurd (not_empty _ _ e)
number_operator LessEqual at e = absurd (not_empty _ _ e)
number_operator Greater at e = absurd (not_empty _ _ e)
number_operator GreaterEqual at e = absurd (not_empty _ _ e)

name_is_number : (o : Option Symbol) (at own : ℕ) → name_flaws o value.Truth at own ≡ [] → ⊥
name_is_number None at own e = not_empty _ _ e
name_is_number (Some s) at own e = not_empty _ _ e

module _ (params : List Param) where
  abbrev formals : List meant.Formal
  formals = map formal params

  symbol_plain : (locals : List (List ℕ)) (x : List ℕ) (s : Symbol) → Has formals locals x s → plain_expr formals locals (used (Some s)) ≡ name 0 0 x
  unfolding plain_expr
  symbol_plain locals x (symbol.Rec i) h = ap (name 0 0) h
  symbol_plain locals x (symbol.Num i) h = ap (name 0 0) h
  symbol_plain locals x (symbol.Local i) h = ap (name 0 0) h

  name_plain : (locals : List (List ℕ)) (at own : ℕ) (x : List ℕ) (o : Option Symbol) → symbol_of params locals x ≡ o → name_flaws o value.Number at own ≡ [] → plain_expr formals locals (used o) ≡ name 0 0 x
  name_plain locals at own x None is e = absurd (not_empty _ _ e)
  name_plain locals at own x (Some s) is e = symbol_plain locals x s (has params locals x s is)

  calculated_plain : (locals : List (List ℕ)) (op : Operator) (c : IsCalculation op) (a b : meant.Expr) (x y : Tree) → plain_expr formals locals a ≡ x → plain_expr formals locals b ≡ y
      → plain_expr formals locals (calculated (calculation op) a b) ≡ binary 0 op x y
  unfolding plain_expr
  calculated_plain locals op c a b x y ha hb = rw c.is (λ i. binary 0 (c.back i) (ha i) (hb i))

  pub number_plain : (locals : List (List ℕ)) (e : Tree) → expr_flaws params locals value.Number e ≡ [] → plain_expr formals locals (typed_expr params locals e) ≡ bare e
  unfolding plain_expr
  number_plain locals (number at n) none = refl
  number_plain locals (name at own x) none = name_plain locals at own x (symbol_of params locals x) refl none
  number_plain locals (negation at e) none = absurd (not_empty _ _ none)
  number_plain locals (binary at op a b) none =
      let parts = empty_parts (kind_flaws (result_kind op) value.Number at) _ none in
      let both = empty_parts (expr_flaws params locals (operand_kind op) a) (expr_flaws params locals (operand_kind op) b) parts.1 in
      let calc = number_operator op at parts.0 in
      calculated_plain locals op calc (typed_expr params locals a) (typed_expr params locals b) (bare a) (bare b)
      (number_plain locals a (subst (λ k. expr_flaws params locals k a ≡ []) calc.operands both.0))
      (number_plain locals b (subst (λ k. expr_flaws params locals k b ≡ []) calc.operands both.1))

  compared_plain : (locals : List (List ℕ)) (op : Operator) (a b : Tree) → expr_flaws params locals value.Number a ++ expr_flaws params locals value.Number b ≡ []
      → binary 0 op (plain_expr formals locals (typed_expr params locals a)) (plain_expr formals locals (typed_expr params locals b)) ≡ binary 0 op (bare a) (bare b)
  compared_plain locals op a b none =
      let both = empty_parts (expr_flaws params locals value.Number a) (expr_flaws params locals value.Number b) none in
      let left = number_plain locals a both.0 in
      let right = number_plain locals b both.1 in
      λ i. binary 0 op (left i) (right i)

  pub truth_plain : (locals : List (List ℕ)) (e : Tree) → expr_flaws params locals value.Truth e ≡ [] → plain_cond formals locals (typed_cond params locals e) ≡ bare e
  unfolding plain_cond
  truth_plain locals (number at n) none = absurd (not_empty _ _ none)
  truth_plain locals (name at own x) none = absurd (name_is_number (symbol_of params locals x) at own none)
  truth_plain locals (negation at e) none = ap (negation 0) (truth_plain locals e none)
  truth_plain locals (binary at Or a b) none =
      let both = empty_parts (expr_flaws params locals value.Truth a) (expr_flaws params locals value.Truth b) none in
      let left = truth_plain locals a both.0 in
      let right = truth_plain locals b both.1 in
      λ i. binary 0 Or (left i) (right i)
  truth_plain locals (binary at And a b) none =
      let both = empty_parts (expr_flaws params locals value.Truth a) (expr_flaws params locals value.Truth b) none in
      let left = truth_plain locals a both.0 in
      let right = truth_plain locals b both.1 in
      λ i. binary 0 And (left i) (right i)
  truth_plain locals (binary at Equal a b) none = compared_plain locals Equal a b none
  truth_plain locals (binary at NotEqual a b) none = compared_plain locals NotEqual a b none
  truth_plain locals (binary at Less a b) none = compared_plain locals Less a b none
  truth_plain locals (binary at LessEqual a b) none = compared_plain locals LessEqual a b none
  truth_plain locals (binary at Greater a b) none = compared_plain locals Greater a b none
  truth_plain locals (binary at GreaterEqual a b) none = compared_plain locals GreaterEqual a b none
  truth_plain locals (binary at Plus a b) none = absurd (not_empty _ _ none)
  truth_plain locals (binary at Minus a b) none = absurd (not_empty _ _ none)
  truth_plain locals (binary at Times a b) none = absurd (not_empty _ _ none)
  truth_plain locals (binary at Divide a b) none = absurd (not_empty _ _ none)
  truth_plain locals (binary at Remainder a b) none = absurd (not_empty _ _ none)

  -- ---- statements

  -- what is visible behind statements
  abbrev behind : List (List ℕ) → List meant.Stmt → List (List ℕ)
  behind locals [] = locals
  behind locals (t ∷ ts) = behind (visible_after locals t) ts

  behind_one : (locals : List (List ℕ)) (ts : List meant.Stmt) (t : meant.Stmt) → behind locals (ts ++ t ∷ []) ≡ visible_after (behind locals ts) t
  behind_one locals [] t = refl
  behind_one locals (u ∷ ts) t = behind_one (visible_after locals u) ts t

  after_assigned : (locals : List (List ℕ)) (o : Option Symbol) (v : meant.Expr) → visible_after locals (assigned o v) ≡ locals ++ []
  after_assigned locals None v = sym (append-nil locals)
  after_assigned locals (Some (symbol.Rec i)) v = sym (append-nil locals)
  after_assigned locals (Some (symbol.Num i)) v = sym (append-nil locals)
  after_assigned locals (Some (symbol.Local i)) v = sym (append-nil locals)

  after_stmt : (locals : List (List ℕ)) (s : Statement) → visible_after locals (typed_stmt params locals s) ≡ locals ++ made_by s
  after_stmt locals (define at x e) = refl
  after_stmt locals (assign at x e) = after_assigned locals (symbol_of params locals x) (typed_expr params locals e)
  after_stmt locals (demand e) = sym (append-nil locals)
  after_stmt locals (choose e b c) = sym (append-nil locals)
  after_stmt locals (again n b) = sym (append-nil locals)

  behind_all : (locals : List (List ℕ)) (ss : Statements) → behind locals (typed_all params locals ss) ≡ locals ++ made ss
  behind_all locals nil = sym (append-nil locals)
  behind_all locals (then_one ss s) =
      let t = typed_stmt params (locals ++ made ss) s in
      behind_one locals (typed_all params locals ss) t
      ∙ ap (λ l. visible_after l t) (behind_all locals ss)
      ∙ after_stmt (locals ++ made ss) s
      ∙ append_assoc locals (made ss) (made_by s)

  one_more : (locals : List (List ℕ)) (ts : List meant.Stmt) (t : meant.Stmt)
      → plain_all formals locals (sequence (ts ++ t ∷ [])) ≡ then_one (plain_all formals locals (sequence ts)) (plain_stmt formals (behind locals ts) t)
  unfolding plain_stmt
  one_more locals [] t = refl
  one_more locals (u ∷ ts) t = ap (ahead (plain_stmt formals locals u)) (one_more (visible_after locals u) ts t)

  target_plain : (locals : List (List ℕ)) (at : ℕ) (x : List ℕ) (o : Option Symbol) (v : meant.Expr) (y : Tree) → symbol_of params locals x ≡ o → target_flaws o at ≡ []
      → plain_expr formals locals v ≡ y → plain_stmt formals locals (assigned o v) ≡ assign 0 x y
  unfolding plain_stmt
  target_plain locals at x None v y is none h = absurd (not_empty _ _ none)
  target_plain locals at x (Some (symbol.Num i)) v y is none h = absurd (not_empty _ _ none)
  target_plain locals at x (Some (symbol.Rec i)) v y is none h = let same = has params locals x (symbol.Rec i) is in λ j. assign 0 (same j) (h j)
  target_plain locals at x (Some (symbol.Local i)) v y is none h = let same = has params locals x (symbol.Local i) is in λ j. assign 0 (same j) (h j)

  mutual
    unfolding plain_stmt

    stmt_plain : (locals : List (List ℕ)) (s : Statement) → stmt_flaws params locals s ≡ [] → plain_stmt formals locals (typed_stmt params locals s) ≡ bare_stmt s
    stmt_plain locals (define at x e) none =
        let parts = empty_parts (double_flaws (is_found (symbol_of params locals x)) at) _ none in
        ap (define 0 x) (number_plain locals e parts.1)
    stmt_plain locals (assign at x e) none =
        let parts = empty_parts (target_flaws (symbol_of params locals x) at) _ none in
        target_plain locals at x (symbol_of params locals x) (typed_expr params locals e) (bare e) refl parts.0 (number_plain locals e parts.1)
    stmt_plain locals (demand e) none = ap demand (truth_plain locals e none)
    stmt_plain locals (choose e b c) none =
        let parts = empty_parts (expr_flaws params locals value.Truth e) _ none in
        let both = empty_parts (all_flaws params locals b) (all_flaws params locals c) parts.1 in
        let test = truth_plain locals e parts.0 in
        let first = all_plain locals b both.0 in
        let second = all_plain locals c both.1 in
        λ i. choose (test i) (first i) (second i)
    stmt_plain locals (again n b) none = ap (again n) (all_plain locals b none)

    all_plain : (locals : List (List ℕ)) (ss : Statements) → all_flaws params locals ss ≡ [] → plain_all formals locals (sequence (typed_all params locals ss)) ≡ bare_all ss
    all_plain locals nil none = refl
    all_plain locals (then_one ss s) none =
        let parts = empty_parts (all_flaws params locals ss) _ none in
        let t = typed_stmt params (locals ++ made ss) s in
        let before = all_plain locals ss parts.0 in
        let last = ap (λ l. plain_stmt formals l t) (behind_all locals ss) ∙ stmt_plain (locals ++ made ss) s parts.1 in
        one_more locals (typed_all params locals ss) t ∙ (λ i. then_one (before i) (last i))

-- ---- operations

same_kind : (k : ParamKind) → plain_kind (typed_kind k) ≡ k
same_kind kind.Record = refl
same_kind kind.Number = refl

params_plain : (ps : List Param) → map plain_param (map formal ps) ≡ map bare_param ps
params_plain [] = refl
params_plain (p ∷ ps) = let k = same_kind p.kind in let rest = params_plain ps in λ i. parameter 0 p.name (k i) ∷ rest i

op_plain : (o : raw.Op) → op_flaws o ≡ [] → plain_op (typed_op o) ≡ bare_op o
op_plain o none =
    let parts = empty_parts (param_flaws [] o.head.params) _ none in
    let params = params_plain o.head.params in
    let body = all_plain o.head.params [] o.body parts.1 in
    λ i. record { head = head 0 o.head.name (params i); body = body i }

pub ops_plain : (seen : List (List ℕ)) (os : List raw.Op) → flaws_behind seen os ≡ [] → map plain_op (map typed_op os) ≡ map bare_op os
ops_plain seen [] none = refl
ops_plain seen (o ∷ os) none =
    let parts = empty_parts (double_flaws _ o.head.at) _ none in
    let both = empty_parts (op_flaws o) _ parts.1 in
    let one = op_plain o both.0 in
    let rest = ops_plain (seen ++ o.head.name ∷ []) os both.1 in
    λ i. one i ∷ rest i
