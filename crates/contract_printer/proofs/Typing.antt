-- The typed operation, and the kinds of the flaws, don't depend on the bytes of a tree.
use Rattle.std.proofs.Common.{◌≡◌, ℕ, ◌+◌, Bool, true, false, nat_eq, List, [], ◌∷◌, ◌++◌, length, map, Option, Some, None, refl, sym, ap, ◌∙◌, if◌then◌else◌}
use Rattle.std.specs.Cmp.Lexicographic.{pointwise}
use Rattle.std.proofs.lemmas.List.{map-append}
use Rattle.contract_grammar.specs.declared.tree.Param.{Param}
use Rattle.contract_grammar.specs.Tree as raw
use Rattle.contract_grammar.specs.Tree.{Tree, number, name, negation, binary, Statement, define, assign, demand, choose, again, Statements, nil, then_one}
use Rattle.oxii_defs.specs.Syntax as meant
use Rattle.oxii_defs.specs.NameLists.{is_named}
use Rattle.contract_text.specs.declared.flaws.ValueKind.{ValueKind}
use Rattle.contract_text.specs.declared.flaws.ValueKind.TheVariants as value
use Rattle.contract_text.specs.declared.flaws.FlawKind.{FlawKind}
use Rattle.contract_text.specs.declared.flaws.Flaw.{Flaw}
use Rattle.contract_text.specs.declared.symbols.Symbol.{Symbol}
use Rattle.contract_text.specs.declared.symbols.Symbol.TheVariants as symbol
use Rattle.contract_text.specs.Symbols.{parameter_symbol, among_params, among_locals, or_else, symbol_of, is_found, made, made_by}
use Rattle.contract_text.specs.Flaws.{result_kind, operand_kind, kind_flaws, name_flaws, expr_flaws, target_flaws, double_flaws, stmt_flaws, all_flaws, param_flaws, op_flaws, flaws_behind}
use Rattle.contract_text.specs.Typed.{calculation, used, calculated, typed_expr, combined, typed_cond, assigned, sequence, typed_stmt, typed_all, formal, typed_op}
use Rattle.contract_printer.proofs.Bare.{bare, bare_stmt, bare_all, bare_param, bare_op}

among_bare : (place : ℕ) (ps : List Param) (x : List ℕ) → among_params place (map bare_param ps) x ≡ among_params place ps x
among_bare place [] x = refl
among_bare place (p ∷ ps) x = ap (λ o. if pointwise nat_eq p.name x then Some (parameter_symbol p.kind place) else o) (among_bare (place + 1) ps x)

symbol_bare : (ps : List Param) (locals : List (List ℕ)) (x : List ℕ) → symbol_of (map bare_param ps) locals x ≡ symbol_of ps locals x
symbol_bare ps locals x = ap (λ o. or_else o (among_locals 0 locals x)) (among_bare 0 ps x)

made_by_bare : (s : Statement) → made_by (bare_stmt s) ≡ made_by s
made_by_bare (define at x e) = refl
made_by_bare (assign at x e) = refl
made_by_bare (demand e) = refl
made_by_bare (choose e b c) = refl
made_by_bare (again n b) = refl

made_bare : (ss : Statements) → made (bare_all ss) ≡ made ss
made_bare nil = refl
made_bare (then_one ss s) = let before = made_bare ss in let last = made_by_bare s in λ i. before i ++ last i

-- the kinds of flaws
abbrev kinds : List Flaw → List FlawKind
kinds fs = map (λ (f : Flaw). f.kind) fs

kinds_both : (xs ys us vs : List Flaw) → kinds us ≡ kinds xs → kinds vs ≡ kinds ys → kinds (us ++ vs) ≡ kinds (xs ++ ys)
kinds_both xs ys us vs h k = map-append (λ (f : Flaw). f.kind) us vs ∙ (λ i. h i ++ k i) ∙ sym (map-append (λ (f : Flaw). f.kind) xs ys)

no_kinds : (fs : List Flaw) → kinds fs ≡ [] → fs ≡ []
no_kinds [] h = refl
no_kinds (f ∷ fs) h = absurd cc

kind_same : (a b : ValueKind) (m n : ℕ) → kinds (kind_flaws a b m) ≡ kinds (kind_flaws a b n)
kind_same value.Number value.Number m n = refl
kind_same value.Number value.Truth m n = refl
kind_same value.Truth value.Number m n = refl
kind_same value.Truth value.Truth m n = refl

name_same : (o : Option Symbol) (wanted : ValueKind) (at own : ℕ) → kinds (name_flaws o wanted 0 0) ≡ kinds (name_flaws o wanted at own)
name_same None wanted at own = refl
name_same (Some s) wanted at own = kind_same value.Number wanted 0 at

target_same : (o : Option Symbol) (m n : ℕ) → kinds (target_flaws o m) ≡ kinds (target_flaws o n)
target_same None m n = refl
target_same (Some (symbol.Rec i)) m n = refl
target_same (Some (symbol.Num i)) m n = refl
target_same (Some (symbol.Local i)) m n = refl

double_same : (b : Bool) (m n : ℕ) → kinds (double_flaws b m) ≡ kinds (double_flaws b n)
double_same true m n = refl
double_same false m n = refl

module _ (params : List Param) where
  abbrev plain : List Param
  plain = map bare_param params

  number_bare : (locals : List (List ℕ)) (e : Tree) → typed_expr plain locals (bare e) ≡ typed_expr params locals e
  number_bare locals (number at n) = refl
  number_bare locals (name at own x) = ap used (symbol_bare params locals x)
  number_bare locals (negation at e) = refl
  number_bare locals (binary at op a b) = let left = number_bare locals a in let right = number_bare locals b in λ i. calculated (calculation op) (left i) (right i)

  truth_bare : (locals : List (List ℕ)) (e : Tree) → typed_cond plain locals (bare e) ≡ typed_cond params locals e
  truth_bare locals (number at n) = refl
  truth_bare locals (name at own x) = refl
  truth_bare locals (negation at e) = ap meant.Not (truth_bare locals e)
  truth_bare locals (binary at op a b) =
      let p = truth_bare locals a in
      let q = truth_bare locals b in
      let left = number_bare locals a in
      let right = number_bare locals b in
      λ i. combined op (p i) (q i) (left i) (right i)

  expr_same : (locals : List (List ℕ)) (wanted : ValueKind) (e : Tree) → kinds (expr_flaws plain locals wanted (bare e)) ≡ kinds (expr_flaws params locals wanted e)
  expr_same locals wanted (number at n) = kind_same value.Number wanted 0 at
  expr_same locals wanted (name at own x) = ap (λ o. kinds (name_flaws o wanted 0 0)) (symbol_bare params locals x) ∙ name_same (symbol_of params locals x) wanted at own
  expr_same locals wanted (negation at e) = kinds_both (kind_flaws value.Truth wanted at) (expr_flaws params locals value.Truth e) (kind_flaws value.Truth wanted 0) _ (kind_same value.Truth wanted 0 at) (expr_same locals value.Truth e)
  expr_same locals wanted (binary at op a b) =
      kinds_both (kind_flaws (result_kind op) wanted at) (expr_flaws params locals (operand_kind op) a ++ expr_flaws params locals (operand_kind op) b) (kind_flaws (result_kind op) wanted 0) _ (kind_same (result_kind op) wanted 0 at)
      (kinds_both (expr_flaws params locals (operand_kind op) a) (expr_flaws params locals (operand_kind op) b) _ _ (expr_same locals (operand_kind op) a) (expr_same locals (operand_kind op) b))

  mutual
    stmt_bare : (locals : List (List ℕ)) (s : Statement) → typed_stmt plain locals (bare_stmt s) ≡ typed_stmt params locals s
    stmt_bare locals (define at x e) = ap (meant.Let (length locals) x) (number_bare locals e)
    stmt_bare locals (assign at x e) = let target = symbol_bare params locals x in let v = number_bare locals e in λ i. assigned (target i) (v i)
    stmt_bare locals (demand e) = ap meant.Require (truth_bare locals e)
    stmt_bare locals (choose e b c) =
        let test = truth_bare locals e in
        let first = all_bare locals b in
        let second = all_bare locals c in
        λ i. meant.If (test i) (sequence (first i)) (sequence (second i))
    stmt_bare locals (again n b) = ap (λ ts. meant.Repeat n (sequence ts)) (all_bare locals b)

    all_bare : (locals : List (List ℕ)) (ss : Statements) → typed_all plain locals (bare_all ss) ≡ typed_all params locals ss
    all_bare locals nil = refl
    all_bare locals (then_one ss s) =
        let before = all_bare locals ss in
        let last = ap (λ m. typed_stmt plain (locals ++ m) (bare_stmt s)) (made_bare ss) ∙ stmt_bare (locals ++ made ss) s in
        λ i. before i ++ last i ∷ []

  mutual
    stmt_same : (locals : List (List ℕ)) (s : Statement) → kinds (stmt_flaws plain locals (bare_stmt s)) ≡ kinds (stmt_flaws params locals s)
    stmt_same locals (define at x e) =
        kinds_both (double_flaws (is_found (symbol_of params locals x)) at) (expr_flaws params locals value.Number e) (double_flaws (is_found (symbol_of plain locals x)) 0) _
        (ap (λ o. kinds (double_flaws (is_found o) 0)) (symbol_bare params locals x) ∙ double_same (is_found (symbol_of params locals x)) 0 at) (expr_same locals value.Number e)
    stmt_same locals (assign at x e) =
        kinds_both (target_flaws (symbol_of params locals x) at) (expr_flaws params locals value.Number e) (target_flaws (symbol_of plain locals x) 0) _
        (ap (λ o. kinds (target_flaws o 0)) (symbol_bare params locals x) ∙ target_same (symbol_of params locals x) 0 at) (expr_same locals value.Number e)
    stmt_same locals (demand e) = expr_same locals value.Truth e
    stmt_same locals (choose e b c) =
        kinds_both (expr_flaws params locals value.Truth e) (all_flaws params locals b ++ all_flaws params locals c) (expr_flaws plain locals value.Truth (bare e)) _ (expr_same locals value.Truth e)
        (kinds_both (all_flaws params locals b) (all_flaws params locals c) _ _ (all_same locals b) (all_same locals c))
    stmt_same locals (again n b) = all_same locals b

    all_same : (locals : List (List ℕ)) (ss : Statements) → kinds (all_flaws plain locals (bare_all ss)) ≡ kinds (all_flaws params locals ss)
    all_same locals nil = refl
    all_same locals (then_one ss s) =
        kinds_both (all_flaws params locals ss) (stmt_flaws params (locals ++ made ss) s) (all_flaws plain locals (bare_all ss)) _ (all_same locals ss)
        (ap (λ m. kinds (stmt_flaws plain (locals ++ m) (bare_stmt s))) (made_bare ss) ∙ stmt_same (locals ++ made ss) s)

formals_bare : (ps : List Param) → map formal (map bare_param ps) ≡ map formal ps
formals_bare [] = refl
formals_bare (p ∷ ps) = ap (λ fs. formal p ∷ fs) (formals_bare ps)

op_bare : (o : raw.Op) → typed_op (bare_op o) ≡ typed_op o
op_bare o =
    let params = formals_bare o.head.params in
    let body = all_bare o.head.params [] o.body in
    λ i. record { name = o.head.name; params = params i; body = sequence (body i) }

pub ops_bare : (os : List raw.Op) → map typed_op (map bare_op os) ≡ map typed_op os
ops_bare [] = refl
ops_bare (o ∷ os) = let one = op_bare o in let rest = ops_bare os in λ i. one i ∷ rest i

params_same : (seen : List (List ℕ)) (ps : List Param) → kinds (param_flaws seen (map bare_param ps)) ≡ kinds (param_flaws seen ps)
params_same seen [] = refl
params_same seen (p ∷ ps) =
    kinds_both (double_flaws (is_named seen p.name) p.at) (param_flaws (seen ++ p.name ∷ []) ps) (double_flaws (is_named seen p.name) 0) _ (double_same (is_named seen p.name) 0 p.at) (params_same (seen ++ p.name ∷ []) ps)

op_same : (o : raw.Op) → kinds (op_flaws (bare_op o)) ≡ kinds (op_flaws o)
op_same o = kinds_both (param_flaws [] o.head.params) (all_flaws o.head.params [] o.body) (param_flaws [] (map bare_param o.head.params)) _ (params_same [] o.head.params) (all_same o.head.params [] o.body)

ops_same : (seen : List (List ℕ)) (os : List raw.Op) → kinds (flaws_behind seen (map bare_op os)) ≡ kinds (flaws_behind seen os)
ops_same seen [] = refl
ops_same seen (o ∷ os) =
    kinds_both (double_flaws (is_named seen o.head.name) o.head.at) (op_flaws o ++ flaws_behind (seen ++ o.head.name ∷ []) os) (double_flaws (is_named seen o.head.name) 0) _ (double_same (is_named seen o.head.name) 0 o.head.at)
    (kinds_both (op_flaws o) (flaws_behind (seen ++ o.head.name ∷ []) os) (op_flaws (bare_op o)) _ (op_same o) (ops_same (seen ++ o.head.name ∷ []) os))

-- operations that are the same but for the bytes have no flaws together
pub flawless : (os other : List raw.Op) → map bare_op os ≡ map bare_op other → flaws_behind [] other ≡ [] → flaws_behind [] os ≡ []
flawless os other same none =
    no_kinds (flaws_behind [] os) (sym (ops_same [] os) ∙ ap (λ l. kinds (flaws_behind [] l)) same ∙ ops_same [] other ∙ ap kinds none)
