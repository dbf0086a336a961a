-- An operation within the limits that has no flaw stands for a well-formed one.
use Rattle.std.proofs.Common.{◌≡◌, ℕ, zero, suc, ◌*◌, ◌<◌, ◌≤◌, Bool, true, false, slice_index_or, List, [], ◌∷◌, ◌++◌, length, map, Option, Some, None, refl, sym, ap, ◌∙◌, subst, arith, append_assoc, fold, if◌then◌else◌}
use Rattle.std.specs.List.{All}
use Rattle.std.proofs.lemmas.List.{append-nil, length-map}
use Rattle.contract_grammar.specs.declared.token.Operator.{Operator}
use Rattle.contract_grammar.specs.declared.token.Operator.TheVariants.{Or, And, Equal, NotEqual, Less, LessEqual, Greater, GreaterEqual, Plus, Minus, Times, Divide, Remainder}
use Rattle.contract_grammar.specs.declared.tree.Param.{Param}
use Rattle.contract_grammar.specs.Tree as raw
use Rattle.contract_grammar.specs.Tree.{Tree, number, name, negation, binary, Statement, define, assign, demand, choose, again, Statements, nil, then_one}
use Rattle.oxii_defs.specs.Syntax as meant
use Rattle.oxii_defs.specs.WellFormed.{Scope, IsFineExpr, IsFineCond, IsFine, AllFine, scope_after, IsWellFormed}
use Rattle.oxii_defs.specs.NameLists.{AllDiffer, is_named}
use Rattle.contract_text.specs.declared.flaws.ValueKind.TheVariants as value
use Rattle.contract_text.specs.declared.flaws.Flaw.{Flaw}
use Rattle.contract_text.specs.declared.symbols.Symbol.{Symbol}
use Rattle.contract_text.specs.declared.symbols.Symbol.TheVariants as symbol
use Rattle.contract_text.specs.Symbols.{symbol_of, is_found, made, made_by}
use Rattle.contract_text.specs.Flaws.{is_before, earlier, noted, result_kind, operand_kind, kind_flaws, name_flaws, expr_flaws, target_flaws, double_flaws, stmt_flaws, all_flaws, param_flaws, op_flaws, flaws_behind, flaws, first_flaw}
use Rattle.contract_text.specs.Typed.{calculation, used, calculated, typed_expr, typed_cond, assigned, sequence, typed_stmt, typed_all, formal, typed_op}
use Rattle.contract_text.specs.Room.{IsSmall, IsBounded, AllBounded, IsBoundedOp, AreBounded}
use Rattle.contract_text.proofs.Names.{AreFresh, fresh_differ, IsThere, found_there, names_of, not_found}

-- ---- lists of flaws

not_empty : {A : Type 0} (x : A) (xs : List A) → ◌≡◌ {A = List A} (x ∷ xs) [] → ⊥
not_empty x xs e = cc

empty_parts : {A : Type 0} (xs ys : List A) → xs ++ ys ≡ [] → (xs ≡ []) × (ys ≡ [])
empty_parts [] ys e = (refl, e)
empty_parts (x ∷ xs) ys e = absurd (not_empty x (xs ++ ys) e)

some_stays : (f : Flaw) (fs : List Flaw) → noted (Some f) fs ≡ None → ⊥
some_stays f [] e = cc
some_stays f (g ∷ fs) e = elim (is_before g f) as (λ b. fold earlier (if b then Some g else Some f) fs ≡ None → ⊥) [ true ↦ λ h. some_stays g fs h | false ↦ λ h. some_stays f fs h ] e

pub no_flaws : (fs : List Flaw) → noted None fs ≡ None → fs ≡ []
no_flaws [] e = refl
no_flaws (f ∷ fs) e = absurd (some_stays f fs e)

module _ (params : List Param) where
  -- what is visible, as the well-formed operations have it
  abbrev seen : List (List ℕ) → ℕ → Scope
  seen locals turns = record { params = map formal params; visible = locals; turns = turns }

  -- ---- expressions

  there_fine : (locals : List (List ℕ)) (turns : ℕ) (s : Symbol) → IsThere (map formal params) locals s → IsFineExpr (seen locals turns) (used (Some s))
  there_fine locals turns (symbol.Rec i) h = h
  there_fine locals turns (symbol.Num i) h = h
  there_fine locals turns (symbol.Local i) h = h

  name_fine : (locals : List (List ℕ)) (turns at own : ℕ) (x : List ℕ) (o : Option Symbol) → symbol_of params locals x ≡ o → name_flaws o value.Number at own ≡ [] → IsFineExpr (seen locals turns) (used o)
  name_fine locals turns at own x None is e = absurd (not_empty _ _ e)
  name_fine locals turns at own x (Some s) is e = there_fine locals turns s (found_there params locals x s is)

  -- an operator that gives a number, and has numbers
  record IsCalculation (op : Operator) : Type 0 where
    operator : meant.Operator
    is : calculation op ≡ Some operator
    operands : operand_kind op ≡ value.Number

  number_operator : (op : Operator) (at : ℕ) → kind_flaws (result_kind op) value.Number at ≡ [] → IsCalculation op
  number_operator Plus at e = record { operator = meant.Add; is = refl; operands = refl }
  number_operator Minus at e = record { operator = meant.Sub; is = refl; operands = refl }
  number_operator Times at e = record { operator = meant.Mul; is = refl; operands = refl }
  number_operator Divide at e = record { operator = meant.Div; is = refl; operands = refl }
  number_operator Remainder at e = record { operator = meant.Rem; is = refl; operands = refl }
  number_operator Or at e = absurd (not_empty _ _ e)
  number_operator And at e = absurd (not_empty _ _ e)
  number_operator Equal at e = absurd (not_empty _ _ e)
  number_operator NotEqual at e = absurd (not_empty _ _ e)
  number_operator Less at e = absurd (not_empty _ _ e)
  number_operator LessEqual at e = absurd (not_empty _ _ e)
  number_operator Greater at e = absurd (not_empty _ _ e)
  number_operator GreaterEqual at e = absurd (not_empty _ _ e)

  calculated_fine : (s : Scope) (o : Option meant.Operator) (op : meant.Operator) (a b : meant.Expr) → o ≡ Some op → IsFineExpr s a → IsFineExpr s b → IsFineExpr s (calculated o a b)
  calculated_fine s o op a b is ha hb = rw is ((ha, hb))

  expr_fine : (locals : List (List ℕ)) (turns : ℕ) (e : Tree) → expr_flaws params locals value.Number e ≡ [] → IsSmall e → IsFineExpr (seen locals turns) (typed_expr params locals e)
  expr_fine locals turns (number at n) none small = small
  expr_fine locals turns (name at own x) none small = name_fine locals turns at own x (symbol_of params locals x) refl none
  expr_fine locals turns (negation at e) none small = absurd (not_empty _ _ none)
  expr_fine locals turns (binary at op a b) none small =
      let parts = empty_parts (kind_flaws (result_kind op) value.Number at) _ none in
      let both = empty_parts (expr_flaws params locals (operand_kind op) a) (expr_flaws params locals (operand_kind op) b) parts.1 in
      let calc = number_operator op at parts.0 in
      calculated_fine (seen locals turns) (calculation op) calc.operator (typed_expr params locals a) (typed_expr params locals b) calc.is
      (expr_fine locals turns a (subst (λ k. expr_flaws params locals k a ≡ []) calc.operands both.0) small.0)
      (expr_fine locals turns b (subst (λ k. expr_flaws params locals k b ≡ []) calc.operands both.1) small.1)

  both_fine : (locals : List (List ℕ)) (turns : ℕ) (a b : Tree) → expr_flaws params locals value.Number a ++ expr_flaws params locals value.Number b ≡ [] → IsSmall a × IsSmall b
      → IsFineExpr (seen locals turns) (typed_expr params locals a) × IsFineExpr (seen locals turns) (typed_expr params locals b)
  both_fine locals turns a b none small =
      let both = empty_parts (expr_flaws params locals value.Number a) (expr_flaws params locals value.Number b) none in
      (expr_fine locals turns a both.0 small.0, expr_fine locals turns b both.1 small.1)

  name_is_number : (o : Option Symbol) (at own : ℕ) → name_flaws o value.Truth at own ≡ [] → ⊥
  name_is_number None at own e = not_empty _ _ e
  name_is_number (Some s) at own e = not_empty _ _ e

  cond_fine : (locals : List (List ℕ)) (turns : ℕ) (e : Tree) → expr_flaws params locals value.Truth e ≡ [] → IsSmall e → IsFineCond (seen locals turns) (typed_cond params locals e)
  cond_fine locals turns (number at n) none small = absurd (not_empty _ _ none)
  cond_fine locals turns (name at own x) none small = absurd (name_is_number (symbol_of params locals x) at own none)
  cond_fine locals turns (negation at e) none small = cond_fine locals turns e none small
  cond_fine locals turns (binary at Or a b) none small =
      let both = empty_parts (expr_flaws params locals value.Truth a) (expr_flaws params locals value.Truth b) none in
      (cond_fine locals turns a both.0 small.0, cond_fine locals turns b both.1 small.1)
  cond_fine locals turns (binary at And a b) none small =
      let both = empty_parts (expr_flaws params locals value.Truth a) (expr_flaws params locals value.Truth b) none in
      (cond_fine locals turns a both.0 small.0, cond_fine locals turns b both.1 small.1)
  cond_fine locals turns (binary at Equal a b) none small = both_fine locals turns a b none small
  cond_fine locals turns (binary at NotEqual a b) none small = both_fine locals turns a b none small
  cond_fine locals turns (binary at Less a b) none small = both_fine locals turns a b none small
  cond_fine locals turns (binary at LessEqual a b) none small = both_fine locals turns a b none small
  cond_fine locals turns (binary at Greater a b) none small = both_fine locals turns a b none small
  cond_fine locals turns (binary at GreaterEqual a b) none small = both_fine locals turns a b none small
  cond_fine locals turns (binary at Plus a b) none small = absurd (not_empty _ _ none)
  cond_fine locals turns (binary at Minus a b) none small = absurd (not_empty _ _ none)
  cond_fine locals turns (binary at Times a b) none small = absurd (not_empty _ _ none)
  cond_fine locals turns (binary at Divide a b) none small = absurd (not_empty _ _ none)
  cond_fine locals turns (binary at Remainder a b) none small = absurd (not_empty _ _ none)

  -- ---- statements

  -- what is visible behind statements
  abbrev behind : Scope → List meant.Stmt → Scope
  behind s [] = s
  behind s (t ∷ ts) = behind (scope_after s t) ts

  behind_one : (s : Scope) (ts : List meant.Stmt) (t : meant.Stmt) → behind s (ts ++ t ∷ []) ≡ scope_after (behind s ts) t
  behind_one s [] t = refl
  behind_one s (u ∷ ts) t = behind_one (scope_after s u) ts t

  one_more : (s : Scope) (ts : List meant.Stmt) (t : meant.Stmt) → AllFine s (sequence ts) → IsFine (behind s ts) t → AllFine s (sequence (ts ++ t ∷ []))
  one_more s [] t h k = (k, tt)
  one_more s (u ∷ ts) t h k = (h.0, one_more (scope_after s u) ts t h.1 k)

  same_seen : (locals : List (List ℕ)) (turns : ℕ) → seen locals turns ≡ seen (locals ++ []) turns
  same_seen locals turns = ap (λ l. seen l turns) (sym (append-nil locals))

  after_assigned : (locals : List (List ℕ)) (turns : ℕ) (o : Option Symbol) (v : meant.Expr) → scope_after (seen locals turns) (assigned o v) ≡ seen (locals ++ []) turns
  after_assigned locals turns None v = same_seen locals turns
  after_assigned locals turns (Some (symbol.Rec i)) v = same_seen locals turns
  after_assigned locals turns (Some (symbol.Num i)) v = same_seen locals turns
  after_assigned locals turns (Some (symbol.Local i)) v = same_seen locals turns

  after_stmt : (locals : List (List ℕ)) (turns : ℕ) (s : Statement) → scope_after (seen locals turns) (typed_stmt params locals s) ≡ seen (locals ++ made_by s) turns
  after_stmt locals turns (define at x e) = refl
  after_stmt locals turns (assign at x e) = after_assigned locals turns (symbol_of params locals x) (typed_expr params locals e)
  after_stmt locals turns (demand e) = same_seen locals turns
  after_stmt locals turns (choose e b c) = same_seen locals turns
  after_stmt locals turns (again n b) = same_seen locals turns

  behind_all : (locals : List (List ℕ)) (turns : ℕ) (ss : Statements) → behind (seen locals turns) (typed_all params locals ss) ≡ seen (locals ++ made ss) turns
  behind_all locals turns nil = same_seen locals turns
  behind_all locals turns (then_one ss s) =
      let t = typed_stmt params (locals ++ made ss) s in
      behind_one (seen locals turns) (typed_all params locals ss) t
      ∙ ap (λ z. scope_after z t) (behind_all locals turns ss)
      ∙ after_stmt (locals ++ made ss) turns s
      ∙ ap (λ l. seen l turns) (append_assoc locals (made ss) (made_by s))

  not_taken : (o : Option Symbol) (at : ℕ) → double_flaws (is_found o) at ≡ [] → o ≡ None
  not_taken None at e = refl
  not_taken (Some s) at e = absurd (not_empty _ _ e)

  assigned_fine : (locals : List (List ℕ)) (turns at : ℕ) (x : List ℕ) (o : Option Symbol) (v : meant.Expr) → symbol_of params locals x ≡ o → target_flaws o at ≡ []
      → IsFineExpr (seen locals turns) v → IsFine (seen locals turns) (assigned o v)
  assigned_fine locals turns at x None v is none h = absurd (not_empty _ _ none)
  assigned_fine locals turns at x (Some (symbol.Num i)) v is none h = absurd (not_empty _ _ none)
  assigned_fine locals turns at x (Some (symbol.Rec i)) v is none h = (found_there params locals x (symbol.Rec i) is, h)
  assigned_fine locals turns at x (Some (symbol.Local i)) v is none h = (found_there params locals x (symbol.Local i) is, h)

  mutual
    stmt_fine : (locals : List (List ℕ)) (turns : ℕ) (s : Statement) → stmt_flaws params locals s ≡ [] → IsBounded locals turns s → IsFine (seen locals turns) (typed_stmt params locals s)
    stmt_fine locals turns (define at x e) none room =
        let parts = empty_parts (double_flaws (is_found (symbol_of params locals x)) at) _ none in
        (refl, room.0, not_found params locals x (not_taken _ at parts.0), expr_fine locals turns e parts.1 room.1)
    stmt_fine locals turns (assign at x e) none room =
        let parts = empty_parts (target_flaws (symbol_of params locals x) at) _ none in
        assigned_fine locals turns at x (symbol_of params locals x) (typed_expr params locals e) refl parts.0 (expr_fine locals turns e parts.1 room.1)
    stmt_fine locals turns (demand e) none room = cond_fine locals turns e none room.1
    stmt_fine locals turns (choose e b c) none room =
        let parts = empty_parts (expr_flaws params locals value.Truth e) _ none in
        let both = empty_parts (all_flaws params locals b) (all_flaws params locals c) parts.1 in
        (cond_fine locals turns e parts.0 room.1, all_fine locals turns b both.0 room.2, all_fine locals turns c both.1 room.3)
    stmt_fine locals turns (again n b) none room = (room.0, room.1, room.2, all_fine locals (turns * n) b none room.3)

    all_fine : (locals : List (List ℕ)) (turns : ℕ) (ss : Statements) → all_flaws params locals ss ≡ [] → AllBounded locals turns ss → AllFine (seen locals turns) (sequence (typed_all params locals ss))
    all_fine locals turns nil none room = tt
    all_fine locals turns (then_one ss s) none room =
        let parts = empty_parts (all_flaws params locals ss) _ none in
        let t = typed_stmt params (locals ++ made ss) s in
        one_more (seen locals turns) (typed_all params locals ss) t (all_fine locals turns ss parts.0 room.0)
        (subst (λ z. IsFine z t) (sym (behind_all locals turns ss)) (stmt_fine (locals ++ made ss) turns s parts.1 room.1))

-- ---- operations

not_doubled : (b : Bool) (at : ℕ) → double_flaws b at ≡ [] → b ≡ false
not_doubled true at e = absurd (not_empty _ _ e)
not_doubled false at e = refl

params_fresh : (seen : List (List ℕ)) (ps : List Param) → param_flaws seen ps ≡ [] → AreFresh seen (names_of ps)
params_fresh seen [] none = tt
params_fresh seen (p ∷ ps) none =
    let parts = empty_parts (double_flaws (is_named seen p.name) p.at) _ none in
    (not_doubled _ p.at parts.0, params_fresh (seen ++ p.name ∷ []) ps parts.1)

op_fine : (o : raw.Op) → op_flaws o ≡ [] → IsBoundedOp o → IsWellFormed (typed_op o)
op_fine o none room =
    let parts = empty_parts (param_flaws [] o.head.params) _ none in
    record {
      count = subst (λ n. n ≤ 16) (sym (length-map o.head.params formal)) room.params;
      names = fresh_differ [] (names_of o.head.params) (params_fresh [] o.head.params parts.0);
      body = all_fine o.head.params [] 1 o.body parts.1 room.body;
    }

-- the operations are well formed, and their names differ
pub record AreFine (os : List meant.Op) : Type 0 where
  pub each : All IsWellFormed os
  pub names : AllDiffer (map (λ o. o.name) os)
  pub count : length os ≤ 16

abbrev op_names : List raw.Op → List (List ℕ)
op_names os = map (λ o. o.name) (map typed_op os)

ops_fresh : (seen : List (List ℕ)) (os : List raw.Op) → flaws_behind seen os ≡ [] → AreFresh seen (op_names os)
ops_fresh seen [] none = tt
ops_fresh seen (o ∷ os) none =
    let parts = empty_parts (double_flaws (is_named seen o.head.name) o.head.at) _ none in
    let rest = empty_parts (op_flaws o) _ parts.1 in
    (not_doubled _ o.head.at parts.0, ops_fresh (seen ++ o.head.name ∷ []) os rest.1)

pub all_first : {A : Type 0} (P : A → Type 0) (x : A) (xs : List A) → All P (x ∷ xs) → P x
all_first P x xs h = h 0 x (omega arith)

pub all_rest : {A : Type 0} (P : A → Type 0) (x : A) (xs : List A) → All P (x ∷ xs) → All P xs
all_rest P x xs h = λ k d lt. h (suc k) d (omega (arith, lt))

pub all_more : {A : Type 0} (P : A → Type 0) (x : A) (xs : List A) → P x → All P xs → All P (x ∷ xs)
all_more P x xs h hs = λ k d lt. elim k as (λ k. k < length (x ∷ xs) → P (slice_index_or (x ∷ xs) k d)) [ zero ↦ (λ l. h) | suc m ↦ (λ l. hs m d (omega (arith, l))) ] lt

ops_fine : (seen : List (List ℕ)) (os : List raw.Op) → flaws_behind seen os ≡ [] → All IsBoundedOp os → All IsWellFormed (map typed_op os)
ops_fine seen [] none room = λ k d lt. absurd (omega (arith, lt))
ops_fine seen (o ∷ os) none room =
    let parts = empty_parts (double_flaws (is_named seen o.head.name) o.head.at) _ none in
    let rest = empty_parts (op_flaws o) _ parts.1 in
    all_more IsWellFormed (typed_op o) (map typed_op os) (op_fine o rest.0 (all_first IsBoundedOp o os room))
    (ops_fine (seen ++ o.head.name ∷ []) os rest.1 (all_rest IsBoundedOp o os room))

pub accepted_fine : (os : List raw.Op) → first_flaw os ≡ None → AreBounded os → AreFine (map typed_op os)
accepted_fine os none room =
    let empty = no_flaws (flaws os) none in
    record {
      each = ops_fine [] os empty room.each;
      names = fresh_differ [] (op_names os) (ops_fresh [] os empty);
      count = subst (λ n. n ≤ 16) (sym (length-map os typed_op)) room.count;
    }
