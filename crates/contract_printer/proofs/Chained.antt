-- Operations of which no chain has more than 32 operators.
use Rattle.std.proofs.Common.{◌≡◌, ℕ, suc, ◌+◌, ◌≤◌, ◌==◌, ◌&&◌, Bool, true, false, nat_le, List, [], ◌∷◌, ◌++◌, map, refl, sym, ap, ◌∙◌, subst, append_assoc, arith, if◌then◌else◌}
use Rattle.std.proofs.lemmas.Bool.{leb-true}
use Rattle.contract_grammar.specs.declared.token.Mark.TheVariants.{WordLet, WordRequire, WordIf, WordElse, WordRepeat, OpenBlock, CloseBlock, Semicolon, Becomes}
use Rattle.contract_grammar.specs.declared.token.Operator.{Operator}
use Rattle.contract_grammar.specs.declared.token.Token.{Token}
use Rattle.contract_grammar.specs.declared.token.Token.TheVariants.{Number, Named, Infix, Not, Open, Close}
use Rattle.contract_grammar.specs.declared.token.Extent.{Extent}
use Rattle.contract_grammar.specs.declared.token.Placed.{Placed}
use Rattle.contract_grammar.specs.Tree.{Tree, number, name, negation, binary, begun_at, Statement, define, assign, demand, choose, again, Statements, nil, then_one, Op}
use Rattle.contract_grammar.specs.Grammar.{tok, fixed, level, left_level, Spells, of_number, of_name, of_group, of_not, of_binary, of_tighter, SpellsStatements, nothing, more, SpellsStatement, of_let, of_assign, of_require, of_if, of_else, of_repeat, SpellsBlock, block, SpellsOp, of_op, SpellsOps, no_ops, more_ops}
use Rattle.contract_grammar.specs.Limits.{Looser, behind_open, behind_infix, behind_not, behind_becomes, behind_require, behind_if, is_chain, chain_length, IsChainEnd}
use Rattle.contract_grammar.proofs.Expressions.{left_bounds}
use Rattle.contract_grammar.proofs.Spelled.{loosened}
use Rattle.contract_printer.proofs.Bare.{bare, bare_stmt, bare_all, bare_op}

-- the operator behind this operand is not the 33rd of its chain
abbrev pub IsShortChain : Operator → Tree → Type 0
IsShortChain op a = (is_chain op && nat_le 32 (chain_length (level op) a)) ≡ false

abbrev pub Chained : Tree → Type 0
Chained (number at n) = Unit {0}
Chained (name at own x) = Unit {0}
Chained (negation at e) = Chained e
Chained (binary at op a b) = IsShortChain op a × Chained a × Chained b

abbrev mutual
  pub IsChained : Statement → Type 0
  IsChained (define at x e) = Chained e
  IsChained (assign at x e) = Chained e
  IsChained (demand e) = Chained e
  IsChained (choose e b c) = Chained e × AreChained b × AreChained c
  IsChained (again n b) = AreChained b

  pub AreChained : Statements → Type 0
  AreChained nil = Unit {0}
  AreChained (then_one ss s) = AreChained ss × IsChained s

abbrev pub AllChained : List Op → Type 0
AllChained [] = Unit {0}
AllChained (o ∷ os) = AreChained o.body × AllChained os

pub all_more : (os : List Op) (o : Op) → AllChained os → AreChained o.body → AllChained (os ++ o ∷ [])
all_more [] o h k = (k, tt)
all_more (p ∷ os) o h k = (h.0, all_more os o h.1 k)

pub all_less : (os : List Op) (o : Op) → AllChained (os ++ o ∷ []) → AllChained os × AreChained o.body
all_less [] o h = (tt, h.0)
all_less (p ∷ os) o h = let r = all_less os o h.1 in ((h.0, r.0), r.1)

pub begun_chained : (p : ℕ) (e : Tree) → Chained e → Chained (begun_at p e)
begun_chained p (number at n) h = h
begun_chained p (name at own x) h = h
begun_chained p (negation at e) h = h
begun_chained p (binary at op a b) h = h

pub chained_begun : (p : ℕ) (e : Tree) → Chained (begun_at p e) → Chained e
chained_begun p (number at n) h = h
chained_begun p (name at own x) h = h
chained_begun p (negation at e) h = h
chained_begun p (binary at op a b) h = h

-- ---- chains don't depend on the bytes of a text

chain_bare : (l : ℕ) (e : Tree) → chain_length l (bare e) ≡ chain_length l e
chain_bare l (number at n) = refl
chain_bare l (name at own x) = refl
chain_bare l (negation at e) = refl
chain_bare l (binary at op a b) = ap (λ n. if level op == l then n + 1 else 0) (chain_bare l a)

chained_bare : (e : Tree) → Chained (bare e) ≡ Chained e
chained_bare (number at n) = refl
chained_bare (name at own x) = refl
chained_bare (negation at e) = chained_bare e
chained_bare (binary at op a b) =
    let short = chain_bare (level op) a in
    let left = chained_bare a in
    let right = chained_bare b in
    λ i. ((is_chain op && nat_le 32 (short i)) ≡ false) × left i × right i

mutual
  stmt_bare : (s : Statement) → IsChained (bare_stmt s) ≡ IsChained s
  stmt_bare (define at x e) = chained_bare e
  stmt_bare (assign at x e) = chained_bare e
  stmt_bare (demand e) = chained_bare e
  stmt_bare (choose e b c) =
      let test = chained_bare e in
      let first = stmts_bare b in
      let second = stmts_bare c in
      λ i. test i × first i × second i
  stmt_bare (again n b) = stmts_bare b

  stmts_bare : (ss : Statements) → AreChained (bare_all ss) ≡ AreChained ss
  stmts_bare nil = refl
  stmts_bare (then_one ss s) = let before = stmts_bare ss in let last = stmt_bare s in λ i. before i × last i

all_bare : (os : List Op) → AllChained (map bare_op os) ≡ AllChained os
all_bare [] = refl
all_bare (o ∷ os) = let one = stmts_bare o.body in let rest = all_bare os in λ i. one i × rest i

pub bare_chained : (os other : List Op) → map bare_op os ≡ map bare_op other → AllChained other → AllChained os
bare_chained os other same h = subst (λ t. t) (sym (all_bare other) ∙ ap AllChained (sym same) ∙ all_bare os) h

-- ---- what the tokens of a text within the limits spell

-- behind these tokens no token is the 33rd operator of its chain
abbrev pub NoEnd : List Placed → List Placed → Type 0
NoEnd p ts = (q : List Placed) (k : Placed) (rest : List Placed) → ts ≡ q ++ k ∷ rest → IsChainEnd (p ++ q) k → ⊥

front : (p xs ys : List Placed) → NoEnd p (xs ++ ys) → NoEnd p xs
front p xs ys h q k rest is c = h q k (rest ++ ys) (ap (λ ts. ts ++ ys) is ∙ append_assoc q (k ∷ rest) ys) c

back : (p xs ys : List Placed) → NoEnd p (xs ++ ys) → NoEnd (p ++ xs) ys
back p xs ys h q k rest is c = h (xs ++ q) k rest (ap (λ ts. xs ++ ts) is ∙ sym (append_assoc xs q (k ∷ rest))) (subst (λ l. IsChainEnd l k) (append_assoc p xs q) c)

next : (p : List Placed) (x : Placed) (ys : List Placed) → NoEnd p (x ∷ ys) → NoEnd (p ++ x ∷ []) ys
next p x ys h = back p (x ∷ []) ys h

tighter : (l m : ℕ) (t : Token) → l ≤ m → Looser l t → Looser m t
tighter l m _ le behind_open = behind_open
tighter l m _ le (behind_infix lt) = behind_infix (omega arith)
tighter l m _ le (behind_not lt) = behind_not (omega arith)
tighter l m _ le behind_becomes = behind_becomes
tighter l m _ le behind_require = behind_require
tighter l m _ le behind_if = behind_if

short_chain : (before : List Placed) (k : Placed) (w : Extent) (op : Operator) (xs ys : List Placed) (a : Tree) → Looser (level op) k.token → Spells (left_level op) xs a → NoEnd (before ++ k ∷ []) (xs ++ tok w (Infix op) ∷ ys) → IsShortChain op a
short_chain before k w op xs ys a loose r h = by (is_chain op) (nat_le 32 (chain_length (level op) a)) refl refl
  where
    by : (c long : Bool) → is_chain op ≡ c → nat_le 32 (chain_length (level op) a) ≡ long → (c && long) ≡ false
    by false long is e = refl
    by true false is e = refl
    by true true is e = absurd (h xs (tok w (Infix op)) ys refl (record {
      operator = op;
      is = refl;
      chains = is;
      operand = a;
      stands = record { before = before; token = k; own = xs; parts = append_assoc before (k ∷ []) xs; looser = loose; spells = loosened (level op) (left_level op) (left_bounds op).0 r };
      long = leb-true 32 (chain_length (level op) a) e;
    }))

expr_chained : {l : ℕ} {ts : List Placed} {e : Tree} → Spells l ts e → (before : List Placed) (k : Placed) → Looser l k.token → NoEnd (before ++ k ∷ []) ts → Chained e
expr_chained of_number before k loose h = tt
expr_chained of_name before k loose h = tt
expr_chained (of_group {w = w} {ts = ts} {e = e} z r) before k loose h =
    let p = before ++ k ∷ [] in
    begun_chained w.start e (expr_chained r p (tok w Open) behind_open (front (p ++ tok w Open ∷ []) ts (tok z Close ∷ []) (next p (tok w Open) (ts ++ tok z Close ∷ []) h)))
expr_chained (of_not {w = w} {ts = ts} r) before k loose h = let p = before ++ k ∷ [] in expr_chained r p (tok w Not) (behind_not (omega arith)) (next p (tok w Not) ts h)
expr_chained (of_binary {xs = xs} {ys = ys} {a = a} {b = b} w op r q) before k loose h =
    let p = before ++ k ∷ [] in (
      short_chain before k w op xs ys a loose r h,
      expr_chained r before k (tighter (level op) (left_level op) k.token (left_bounds op).0 loose) (front p xs (tok w (Infix op) ∷ ys) h),
      expr_chained q (p ++ xs) (tok w (Infix op)) (behind_infix (omega arith)) (next (p ++ xs) (tok w (Infix op)) ys (back p xs (tok w (Infix op) ∷ ys) h)),
    )
expr_chained (of_tighter {l = l} r) before k loose h = expr_chained r before k (tighter l (suc l) k.token (omega arith) loose) h

mutual
  stmts_chained : {ts : List Placed} {ss : Statements} → SpellsStatements ts ss → (p : List Placed) → NoEnd p ts → AreChained ss
  stmts_chained nothing p h = tt
  stmts_chained (more {xs = xs} {ys = ys} r q) p h = (stmts_chained r p (front p xs ys h), stmt_chained q (p ++ xs) (back p xs ys h))

  stmt_chained : {ts : List Placed} {s : Statement} → SpellsStatement ts s → (p : List Placed) → NoEnd p ts → IsChained s
  stmt_chained (of_let {w = w} {v = v} {u = u} {x = x} {long = long} {ts = ts} z r) p h =
      let a = next p (fixed w WordLet) (tok v (Named x long) ∷ fixed u Becomes ∷ (ts ++ fixed z Semicolon ∷ [])) h in
      let q = p ++ fixed w WordLet ∷ [] in
      let b = next q (tok v (Named x long)) (fixed u Becomes ∷ (ts ++ fixed z Semicolon ∷ [])) a in
      let before = q ++ tok v (Named x long) ∷ [] in
      expr_chained r before (fixed u Becomes) behind_becomes (front (before ++ fixed u Becomes ∷ []) ts (fixed z Semicolon ∷ []) (next before (fixed u Becomes) (ts ++ fixed z Semicolon ∷ []) b))
  stmt_chained (of_assign {v = v} {u = u} {x = x} {long = long} {ts = ts} z r) p h =
      let a = next p (tok v (Named x long)) (fixed u Becomes ∷ (ts ++ fixed z Semicolon ∷ [])) h in
      let before = p ++ tok v (Named x long) ∷ [] in
      expr_chained r before (fixed u Becomes) behind_becomes (front (before ++ fixed u Becomes ∷ []) ts (fixed z Semicolon ∷ []) (next before (fixed u Becomes) (ts ++ fixed z Semicolon ∷ []) a))
  stmt_chained (of_require {w = w} {ts = ts} z r) p h =
      expr_chained r p (fixed w WordRequire) behind_require (front (p ++ fixed w WordRequire ∷ []) ts (fixed z Semicolon ∷ []) (next p (fixed w WordRequire) (ts ++ fixed z Semicolon ∷ []) h))
  stmt_chained (of_if {w = w} {ts = ts} {bs = bs} r q) p h =
      let here = p ++ fixed w WordIf ∷ [] in
      let a = next p (fixed w WordIf) (ts ++ bs) h in
      (expr_chained r p (fixed w WordIf) behind_if (front here ts bs a), block_chained q (here ++ ts) (back here ts bs a), tt)
  stmt_chained (of_else {w = w} {ts = ts} {bs = bs} {cs = cs} v r q k) p h =
      let here = p ++ fixed w WordIf ∷ [] in
      let tail = bs ++ fixed v WordElse ∷ cs in
      let a = next p (fixed w WordIf) (ts ++ (bs ++ fixed v WordElse ∷ cs)) h in
      let b = back here ts tail a in
      let c = back (here ++ ts) bs (fixed v WordElse ∷ cs) b in (
        expr_chained r p (fixed w WordIf) behind_if (front here ts tail a),
        block_chained q (here ++ ts) (front (here ++ ts) bs (fixed v WordElse ∷ cs) b),
        block_chained k (((here ++ ts) ++ bs) ++ fixed v WordElse ∷ []) (next ((here ++ ts) ++ bs) (fixed v WordElse) cs c),
      )
  stmt_chained (of_repeat {w = w} {v = v} {n = n} {bs = bs} q) p h =
      let here = p ++ fixed w WordRepeat ∷ [] in
      block_chained q (here ++ tok v (Number n) ∷ []) (next here (tok v (Number n)) bs (next p (fixed w WordRepeat) (tok v (Number n) ∷ bs) h))

  block_chained : {bs : List Placed} {b : Statements} → SpellsBlock bs b → (p : List Placed) → NoEnd p bs → AreChained b
  block_chained (block {w = w} {xs = xs} z r) p h =
      let here = p ++ fixed w OpenBlock ∷ [] in
      stmts_chained r here (front here xs (fixed z CloseBlock ∷ []) (next p (fixed w OpenBlock) (xs ++ fixed z CloseBlock ∷ []) h))

op_chained : {ts : List Placed} {o : Op} → SpellsOp ts o → (p : List Placed) → NoEnd p ts → AreChained o.body
op_chained (of_op {hs = hs} {bs = bs} r q) p h = block_chained q (p ++ hs) (back p hs bs h)

pub ops_chained : {ts : List Placed} {os : List Op} → SpellsOps ts os → (p : List Placed) → NoEnd p ts → AllChained os
ops_chained no_ops p h = tt
ops_chained (more_ops {xs = xs} {ys = ys} {os = os} {o = o} r q) p h = all_more os o (ops_chained r p (front p xs ys h)) (op_chained q (p ++ xs) (back p xs ys h))
