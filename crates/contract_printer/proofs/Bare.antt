-- Trees without the bytes of a text.
use Rattle.std.proofs.Common.{◌≡◌, ℕ, suc, false, List, [], ◌∷◌, ◌++◌, map, nat_lt, refl, ap}
use Rattle.contract_grammar.specs.declared.token.Mark.TheVariants.{WordOp, WordLet, WordRequire, WordIf, WordElse, WordRepeat, Comma, Semicolon, Becomes}
use Rattle.contract_grammar.specs.declared.token.Token.TheVariants.{Number, Named, Infix, Not, Open, Close, Fixed}
use Rattle.contract_grammar.specs.declared.tree.Param.{Param}
use Rattle.contract_grammar.specs.Tree.{Tree, number, name, negation, binary, Statement, define, assign, demand, choose, again, Statements, nil, then_one, Op}
use Rattle.contract_grammar.specs.Grammar.{level, left_level, head, parameter}
use Rattle.contract_printer.specs.Printed.{grouped, printed, braced, printed_stmt, printed_all, printed_else, printed_param, printed_more, printed_params, printed_op, printed_ops}

abbrev pub bare : Tree → Tree
bare (number at n) = number 0 n
bare (name at own x) = name 0 0 x
bare (negation at e) = negation 0 (bare e)
bare (binary at op a b) = binary 0 op (bare a) (bare b)

abbrev mutual
  pub bare_stmt : Statement → Statement
  bare_stmt (define at x e) = define 0 x (bare e)
  bare_stmt (assign at x e) = assign 0 x (bare e)
  bare_stmt (demand e) = demand (bare e)
  bare_stmt (choose e b c) = choose (bare e) (bare_all b) (bare_all c)
  bare_stmt (again n b) = again n (bare_all b)

  pub bare_all : Statements → Statements
  bare_all nil = nil
  bare_all (then_one ss s) = then_one (bare_all ss) (bare_stmt s)

abbrev pub bare_param : Param → Param
bare_param p = parameter 0 p.name p.kind

abbrev pub bare_op : Op → Op
bare_op o = record { head = head 0 o.head.name (map bare_param o.head.params); body = bare_all o.body }

-- the tokens don't depend on the bytes

pub printed_bare : (l : ℕ) (e : Tree) → printed l (bare e) ≡ printed l e
printed_bare l (number at n) = refl
printed_bare l (name at own x) = refl
printed_bare l (negation at e) = ap (λ ts. grouped (nat_lt 2 l) (Not ∷ ts)) (printed_bare 3 e)
printed_bare l (binary at op a b) =
    let left = printed_bare (left_level op) a in
    let right = printed_bare (suc (level op)) b in
    λ i. grouped (nat_lt (level op) l) (left i ++ Infix op ∷ right i)

mutual
  printed_stmt_bare : (s : Statement) → printed_stmt (bare_stmt s) ≡ printed_stmt s
  printed_stmt_bare (define at x e) = ap (λ ts. Fixed WordLet ∷ Named x false ∷ Fixed Becomes ∷ (ts ++ Fixed Semicolon ∷ [])) (printed_bare 0 e)
  printed_stmt_bare (assign at x e) = ap (λ ts. Named x false ∷ Fixed Becomes ∷ (ts ++ Fixed Semicolon ∷ [])) (printed_bare 0 e)
  printed_stmt_bare (demand e) = ap (λ ts. Fixed WordRequire ∷ (ts ++ Fixed Semicolon ∷ [])) (printed_bare 0 e)
  printed_stmt_bare (choose e b c) =
      let test = printed_bare 0 e in
      let first = printed_all_bare b in
      let second = printed_else_bare c in
      λ i. Fixed WordIf ∷ (test i ++ (braced (first i) ++ second i))
  printed_stmt_bare (again n b) = ap (λ ts. Fixed WordRepeat ∷ Number n ∷ braced ts) (printed_all_bare b)

  printed_all_bare : (ss : Statements) → printed_all (bare_all ss) ≡ printed_all ss
  printed_all_bare nil = refl
  printed_all_bare (then_one ss s) = let before = printed_all_bare ss in let last = printed_stmt_bare s in λ i. before i ++ last i

  printed_else_bare : (ss : Statements) → printed_else (bare_all ss) ≡ printed_else ss
  printed_else_bare nil = refl
  printed_else_bare (then_one ss s) = let before = printed_all_bare ss in let last = printed_stmt_bare s in λ i. Fixed WordElse ∷ braced (before i ++ last i)

printed_more_bare : (ps : List Param) → printed_more (map bare_param ps) ≡ printed_more ps
printed_more_bare [] = refl
printed_more_bare (p ∷ ps) = ap (λ ts. Fixed Comma ∷ (printed_param p ++ ts)) (printed_more_bare ps)

printed_params_bare : (ps : List Param) → printed_params (map bare_param ps) ≡ printed_params ps
printed_params_bare [] = refl
printed_params_bare (p ∷ ps) = ap (λ ts. printed_param p ++ ts) (printed_more_bare ps)

printed_op_bare : (o : Op) → printed_op (bare_op o) ≡ printed_op o
printed_op_bare o =
    let params = printed_params_bare o.head.params in
    let body = printed_all_bare o.body in
    λ i. (Fixed WordOp ∷ Named o.head.name false ∷ Open ∷ (params i ++ Close ∷ [])) ++ braced (body i)

pub printed_ops_bare : (os : List Op) → printed_ops (map bare_op os) ≡ printed_ops os
printed_ops_bare [] = refl
printed_ops_bare (o ∷ os) = let one = printed_op_bare o in let rest = printed_ops_bare os in λ i. one i ++ rest i
