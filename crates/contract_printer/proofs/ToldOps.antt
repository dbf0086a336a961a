-- The printed tokens of operations spell them, but for the bytes, wherever they stand.
use Rattle.std.proofs.Common.{◌≡◌, ℕ, false, List, [], ◌∷◌, ◌++◌, map, refl, sym, ap, ◌∙◌, subst, append_assoc, arith}
use Rattle.std.proofs.lemmas.List.{append-nil, map-append}
use Rattle.contract_grammar.specs.declared.token.Mark.TheVariants.{WordOp, WordLet, WordRequire, WordIf, WordElse, WordRepeat, OpenBlock, CloseBlock, Colon, Comma, Semicolon, Becomes}
use Rattle.contract_grammar.specs.declared.token.Token.TheVariants.{Number, Named, Open, Close, Fixed}
use Rattle.contract_grammar.specs.declared.token.Extent.{Extent}
use Rattle.contract_grammar.specs.declared.token.Placed.{Placed}
use Rattle.contract_grammar.specs.declared.tree.ParamKind.{ParamKind}
use Rattle.contract_grammar.specs.declared.tree.ParamKind.TheVariants as kind
use Rattle.contract_grammar.specs.declared.tree.Param.{Param}
use Rattle.contract_grammar.specs.declared.tree.Head.{Head}
use Rattle.contract_grammar.specs.Tree.{Tree, Statement, define, assign, demand, choose, again, Statements, nil, then_one, Op}
use Rattle.contract_grammar.specs.Grammar.{tok, fixed, SpellsStatements, nothing, more, SpellsStatement, of_let, of_assign, of_require, of_if, of_else, of_repeat, SpellsBlock, block, parameter, SpellsParam, of_record, of_amount, SpellsParams, one_param, more_params, head, SpellsHead, without, with, of_op, SpellsOps, no_ops, more_ops}
use Rattle.contract_printer.specs.Printed.{printed, braced, printed_stmt, printed_all, kind_word, printed_param, printed_more, printed_params, printed_head, printed_op, printed_ops}
use Rattle.contract_printer.proofs.Bare.{bare_stmt, bare_all, bare_param, bare_op}
use Rattle.contract_printer.proofs.Between.{toks}
use Rattle.contract_printer.proofs.Splits.{front, cut, alone, ended, nothing_is}
use Rattle.contract_printer.proofs.Told.{told}

-- the tokens spell this, but for the bytes
record TellsStatement (ks : List Placed) (s : Statement) : Type 0 where
  tree : Statement
  spells : SpellsStatement ks tree
  same : bare_stmt tree ≡ bare_stmt s

record TellsAll (ks : List Placed) (ss : Statements) : Type 0 where
  tree : Statements
  spells : SpellsStatements ks tree
  same : bare_all tree ≡ bare_all ss

record TellsBlock (ks : List Placed) (ss : Statements) : Type 0 where
  tree : Statements
  spells : SpellsBlock ks tree
  same : bare_all tree ≡ bare_all ss

abbrev AllTold : Statements → Type 0
AllTold ss = (ks : List Placed) → toks ks ≡ printed_all ss → TellsAll ks ss

block_told : (b : Statements) → AllTold b → (ks : List Placed) → toks ks ≡ braced (printed_all b) → TellsBlock ks b
block_told b inside ks h =
    let f = front ks (Fixed OpenBlock) (printed_all b ++ Fixed CloseBlock ∷ []) h in
    let r = ended f.others (printed_all b) (Fixed CloseBlock) f.others_is in
    let t = inside r.own r.own_is in
    let is : ks ≡ fixed f.place OpenBlock ∷ (r.own ++ fixed r.place CloseBlock ∷ []) = f.is ∙ ap (λ (x : List Placed). fixed f.place OpenBlock ∷ x) r.is in
    rw is (record { tree = t.tree; spells = block r.place t.spells; same = t.same })

let_told : (at : ℕ) (x : List ℕ) (e : Tree) (ks : List Placed) → toks ks ≡ Fixed WordLet ∷ Named x false ∷ Fixed Becomes ∷ (printed 0 e ++ Fixed Semicolon ∷ []) → TellsStatement ks (define at x e)
let_told at x e ks h =
    let a = front ks (Fixed WordLet) (Named x false ∷ Fixed Becomes ∷ (printed 0 e ++ Fixed Semicolon ∷ [])) h in
    let b = front a.others (Named x false) (Fixed Becomes ∷ (printed 0 e ++ Fixed Semicolon ∷ [])) a.others_is in
    let c = front b.others (Fixed Becomes) (printed 0 e ++ Fixed Semicolon ∷ []) b.others_is in
    let d = ended c.others (printed 0 e) (Fixed Semicolon) c.others_is in
    let t = told 0 e (omega arith) d.own d.own_is in
    let is : ks ≡ fixed a.place WordLet ∷ tok b.place (Named x false) ∷ fixed c.place Becomes ∷ (d.own ++ fixed d.place Semicolon ∷ []) =
    a.is ∙ ap (λ (l : List Placed). fixed a.place WordLet ∷ l) (b.is ∙ ap (λ (l : List Placed). tok b.place (Named x false) ∷ l) (c.is ∙ ap (λ (l : List Placed). fixed c.place Becomes ∷ l) d.is)) in
    rw is (record { tree = define b.place.start x t.tree; spells = of_let d.place t.spells; same = ap (define 0 x) t.same })

assign_told : (at : ℕ) (x : List ℕ) (e : Tree) (ks : List Placed) → toks ks ≡ Named x false ∷ Fixed Becomes ∷ (printed 0 e ++ Fixed Semicolon ∷ []) → TellsStatement ks (assign at x e)
assign_told at x e ks h =
    let b = front ks (Named x false) (Fixed Becomes ∷ (printed 0 e ++ Fixed Semicolon ∷ [])) h in
    let c = front b.others (Fixed Becomes) (printed 0 e ++ Fixed Semicolon ∷ []) b.others_is in
    let d = ended c.others (printed 0 e) (Fixed Semicolon) c.others_is in
    let t = told 0 e (omega arith) d.own d.own_is in
    let is : ks ≡ tok b.place (Named x false) ∷ fixed c.place Becomes ∷ (d.own ++ fixed d.place Semicolon ∷ []) =
    b.is ∙ ap (λ (l : List Placed). tok b.place (Named x false) ∷ l) (c.is ∙ ap (λ (l : List Placed). fixed c.place Becomes ∷ l) d.is) in
    rw is (record { tree = assign b.place.start x t.tree; spells = of_assign d.place t.spells; same = ap (assign 0 x) t.same })

require_told : (e : Tree) (ks : List Placed) → toks ks ≡ Fixed WordRequire ∷ (printed 0 e ++ Fixed Semicolon ∷ []) → TellsStatement ks (demand e)
require_told e ks h =
    let c = front ks (Fixed WordRequire) (printed 0 e ++ Fixed Semicolon ∷ []) h in
    let d = ended c.others (printed 0 e) (Fixed Semicolon) c.others_is in
    let t = told 0 e (omega arith) d.own d.own_is in
    let is : ks ≡ fixed c.place WordRequire ∷ (d.own ++ fixed d.place Semicolon ∷ []) = c.is ∙ ap (λ (l : List Placed). fixed c.place WordRequire ∷ l) d.is in
    rw is (record { tree = demand t.tree; spells = of_require d.place t.spells; same = ap demand t.same })

repeat_told : (n : ℕ) (b : Statements) → AllTold b → (ks : List Placed) → toks ks ≡ Fixed WordRepeat ∷ Number n ∷ braced (printed_all b) → TellsStatement ks (again n b)
repeat_told n b inside ks h =
    let a = front ks (Fixed WordRepeat) (Number n ∷ braced (printed_all b)) h in
    let c = front a.others (Number n) (braced (printed_all b)) a.others_is in
    let t = block_told b inside c.others c.others_is in
    let is : ks ≡ fixed a.place WordRepeat ∷ tok c.place (Number n) ∷ c.others = a.is ∙ ap (λ (l : List Placed). fixed a.place WordRepeat ∷ l) c.is in
    rw is (record { tree = again n t.tree; spells = of_repeat t.spells; same = ap (again n) t.same })

if_told : (e : Tree) (b : Statements) → AllTold b → (ks : List Placed) → toks ks ≡ Fixed WordIf ∷ (printed 0 e ++ (braced (printed_all b) ++ [])) → TellsStatement ks (choose e b nil)
if_told e b inside ks h =
    let a = front ks (Fixed WordIf) (printed 0 e ++ (braced (printed_all b) ++ [])) h in
    let c = cut (printed 0 e) (braced (printed_all b) ++ []) a.others a.others_is in
    let t = told 0 e (omega arith) c.left c.left_is in
    let q = block_told b inside c.right (c.right_is ∙ append-nil (braced (printed_all b))) in
    let is : ks ≡ fixed a.place WordIf ∷ (c.left ++ c.right) = a.is ∙ ap (λ (l : List Placed). fixed a.place WordIf ∷ l) c.is in
    rw is (record { tree = choose t.tree q.tree nil; spells = of_if t.spells q.spells; same = λ i. choose (t.same i) (q.same i) nil })

else_told : (e : Tree) (b c : Statements) → AllTold b → AllTold c → (ks : List Placed) → toks ks ≡ Fixed WordIf ∷ (printed 0 e ++ (braced (printed_all b) ++ Fixed WordElse ∷ braced (printed_all c))) → TellsStatement ks (choose e b c)
else_told e b c inside also ks h =
    let a = front ks (Fixed WordIf) (printed 0 e ++ (braced (printed_all b) ++ Fixed WordElse ∷ braced (printed_all c))) h in
    let d = cut (printed 0 e) (braced (printed_all b) ++ Fixed WordElse ∷ braced (printed_all c)) a.others a.others_is in
    let t = told 0 e (omega arith) d.left d.left_is in
    let f = cut (braced (printed_all b)) (Fixed WordElse ∷ braced (printed_all c)) d.right d.right_is in
    let q = block_told b inside f.left f.left_is in
    let g = front f.right (Fixed WordElse) (braced (printed_all c)) f.right_is in
    let p = block_told c also g.others g.others_is in
    let is : ks ≡ fixed a.place WordIf ∷ (d.left ++ (f.left ++ fixed g.place WordElse ∷ g.others)) =
    a.is ∙ ap (λ (l : List Placed). fixed a.place WordIf ∷ l) (d.is ∙ ap (λ (l : List Placed). d.left ++ l) (f.is ∙ ap (λ (l : List Placed). f.left ++ l) g.is)) in
    rw is (record { tree = choose t.tree q.tree p.tree; spells = of_else g.place t.spells q.spells p.spells; same = λ i. choose (t.same i) (q.same i) (p.same i) })

choose_told : (e : Tree) (b c : Statements) → AllTold b → AllTold c → (ks : List Placed) → toks ks ≡ printed_stmt (choose e b c) → TellsStatement ks (choose e b c)
choose_told e b nil inside also ks h = if_told e b inside ks h
choose_told e b (then_one ss s) inside also ks h = else_told e b (then_one ss s) inside also ks h

mutual
  stmt_told : (s : Statement) (ks : List Placed) → toks ks ≡ printed_stmt s → TellsStatement ks s
  stmt_told (define at x e) ks h = let_told at x e ks h
  stmt_told (assign at x e) ks h = assign_told at x e ks h
  stmt_told (demand e) ks h = require_told e ks h
  stmt_told (choose e b c) ks h = choose_told e b c (all_told b) (all_told c) ks h
  stmt_told (again n b) ks h = repeat_told n b (all_told b) ks h

  all_told : (ss : Statements) (ks : List Placed) → toks ks ≡ printed_all ss → TellsAll ks ss
  all_told nil ks h = rw (nothing_is ks h) (record { tree = nil; spells = nothing; same = refl })
  all_told (then_one ss s) ks h =
      let c = cut (printed_all ss) (printed_stmt s) ks h in
      let t = all_told ss c.left c.left_is in
      let q = stmt_told s c.right c.right_is in
      rw c.is (record { tree = then_one t.tree q.tree; spells = more t.spells q.spells; same = λ i. then_one (t.same i) (q.same i) })

-- ---- operations

record TellsParam (ks : List Placed) (p : Param) : Type 0 where
  tree : Param
  spells : SpellsParam ks tree
  same : bare_param tree ≡ bare_param p

param_by : (at : ℕ) (x : List ℕ) (k : ParamKind) (w v u : Extent) → TellsParam (tok w (Named x false) ∷ fixed v Colon ∷ fixed u (kind_word k) ∷ []) (parameter at x k)
param_by at x kind.Record w v u = record { tree = parameter w.start x kind.Record; spells = of_record; same = refl }
param_by at x kind.Number w v u = record { tree = parameter w.start x kind.Number; spells = of_amount; same = refl }

param_told : (at : ℕ) (x : List ℕ) (k : ParamKind) (ks : List Placed) → toks ks ≡ Named x false ∷ Fixed Colon ∷ Fixed (kind_word k) ∷ [] → TellsParam ks (parameter at x k)
param_told at x k ks h =
    let a = front ks (Named x false) (Fixed Colon ∷ Fixed (kind_word k) ∷ []) h in
    let b = front a.others (Fixed Colon) (Fixed (kind_word k) ∷ []) a.others_is in
    let c = alone b.others (Fixed (kind_word k)) b.others_is in
    let is : ks ≡ tok a.place (Named x false) ∷ fixed b.place Colon ∷ fixed c.place (kind_word k) ∷ [] =
    a.is ∙ ap (λ (l : List Placed). tok a.place (Named x false) ∷ l) (b.is ∙ ap (λ (l : List Placed). fixed b.place Colon ∷ l) c.is) in
    rw is (param_by at x k a.place b.place c.place)

-- parameters behind some that are spelled
record TellsParams (ks : List Placed) (ps : List Param) : Type 0 where
  tree : List Param
  spells : SpellsParams ks tree
  same : map bare_param tree ≡ ps

more_told : (ps : List Param) (before : List Placed) (done : List Param) → SpellsParams before done → (ks : List Placed) → toks ks ≡ printed_more ps → TellsParams (before ++ ks) (map bare_param done ++ map bare_param ps)
more_told [] before done r ks h = rw (nothing_is ks h, append-nil before, append-nil (map bare_param done)) (record { tree = done; spells = r; same = refl })
more_told (p ∷ ps) before done r ks h =
    let a = front ks (Fixed Comma) (printed_param p ++ printed_more ps) h in
    let c = cut (printed_param p) (printed_more ps) a.others a.others_is in
    let q = param_told p.at p.name p.kind c.left c.left_is in
    let t = more_told ps (before ++ fixed a.place Comma ∷ c.left) (done ++ q.tree ∷ []) (more_params a.place r q.spells) c.right c.right_is in
    let is : ks ≡ fixed a.place Comma ∷ (c.left ++ c.right) = a.is ∙ ap (λ (l : List Placed). fixed a.place Comma ∷ l) c.is in
    let same : map bare_param (done ++ q.tree ∷ []) ++ map bare_param ps ≡ map bare_param done ++ map bare_param (p ∷ ps) =
    ap (λ (l : List Param). l ++ map bare_param ps) (map-append bare_param done (q.tree ∷ []))
    ∙ append_assoc (map bare_param done) (bare_param q.tree ∷ []) (map bare_param ps)
    ∙ ap (λ (y : Param). map bare_param done ++ y ∷ map bare_param ps) q.same in
    record { tree = t.tree; spells = subst (λ (l : List Placed). SpellsParams l t.tree) (append_assoc before (fixed a.place Comma ∷ c.left) c.right ∙ ap (λ (l : List Placed). before ++ l) (sym is)) t.spells; same = t.same ∙ same }

record TellsHead (ks : List Placed) (h : Head) : Type 0 where
  tree : Head
  spells : SpellsHead ks tree
  name : tree.name ≡ h.name
  params : map bare_param tree.params ≡ map bare_param h.params

head_told : (at : ℕ) (x : List ℕ) (ps : List Param) (ks : List Placed) → toks ks ≡ Fixed WordOp ∷ Named x false ∷ Open ∷ (printed_params ps ++ Close ∷ []) → TellsHead ks (head at x ps)
head_told at x [] ks h =
    let a = front ks (Fixed WordOp) (Named x false ∷ Open ∷ Close ∷ []) h in
    let b = front a.others (Named x false) (Open ∷ Close ∷ []) a.others_is in
    let c = front b.others Open (Close ∷ []) b.others_is in
    let d = alone c.others Close c.others_is in
    let is : ks ≡ fixed a.place WordOp ∷ tok b.place (Named x false) ∷ tok c.place Open ∷ tok d.place Close ∷ [] =
    a.is ∙ ap (λ (l : List Placed). fixed a.place WordOp ∷ l) (b.is ∙ ap (λ (l : List Placed). tok b.place (Named x false) ∷ l) (c.is ∙ ap (λ (l : List Placed). tok c.place Open ∷ l) d.is)) in
    rw is (record { tree = head b.place.start x []; spells = without; name = refl; params = refl })
head_told at x (p ∷ ps) ks h =
    let a = front ks (Fixed WordOp) (Named x false ∷ Open ∷ (printed_params (p ∷ ps) ++ Close ∷ [])) h in
    let b = front a.others (Named x false) (Open ∷ (printed_params (p ∷ ps) ++ Close ∷ [])) a.others_is in
    let c = front b.others Open (printed_params (p ∷ ps) ++ Close ∷ []) b.others_is in
    let d = ended c.others (printed_params (p ∷ ps)) Close c.others_is in
    let f = cut (printed_param p) (printed_more ps) d.own d.own_is in
    let q = param_told p.at p.name p.kind f.left f.left_is in
    let t = more_told ps f.left (q.tree ∷ []) (one_param q.spells) f.right f.right_is in
    let is : ks ≡ fixed a.place WordOp ∷ tok b.place (Named x false) ∷ tok c.place Open ∷ ((f.left ++ f.right) ++ tok d.place Close ∷ []) =
    a.is ∙ ap (λ (l : List Placed). fixed a.place WordOp ∷ l) (b.is ∙ ap (λ (l : List Placed). tok b.place (Named x false) ∷ l) (c.is ∙ ap (λ (l : List Placed). tok c.place Open ∷ l)
    (d.is ∙ ap (λ (l : List Placed). l ++ tok d.place Close ∷ []) f.is))) in
    rw is (record { tree = head b.place.start x t.tree; spells = with d.place t.spells; name = refl; params = t.same ∙ ap (λ (y : Param). y ∷ map bare_param ps) q.same })

-- operations behind some that are spelled
pub record TellsOps (ks : List Placed) (os : List Op) : Type 0 where
  pub tree : List Op
  pub spells : SpellsOps ks tree
  pub same : map bare_op tree ≡ os

ops_behind : (os : List Op) (before : List Placed) (done : List Op) → SpellsOps before done → (ks : List Placed) → toks ks ≡ printed_ops os → TellsOps (before ++ ks) (map bare_op done ++ map bare_op os)
ops_behind [] before done r ks h = rw (nothing_is ks h, append-nil before, append-nil (map bare_op done)) (record { tree = done; spells = r; same = refl })
ops_behind (o ∷ os) before done r ks h =
    let c = cut (printed_op o) (printed_ops os) ks h in
    let d = cut (printed_head o.head) (braced (printed_all o.body)) c.left c.left_is in
    let q = head_told o.head.at o.head.name o.head.params d.left d.left_is in
    let b = block_told o.body (all_told o.body) d.right d.right_is in
    let one : Op = record { head = q.tree; body = b.tree } in
    let same_one : bare_op one ≡ bare_op o = λ i. record { head = head 0 (q.name i) (q.params i); body = b.same i } in
    let t = ops_behind os (before ++ (d.left ++ d.right)) (done ++ one ∷ []) (more_ops r (of_op q.spells b.spells)) c.right c.right_is in
    let is : (before ++ (d.left ++ d.right)) ++ c.right ≡ before ++ ks =
    append_assoc before (d.left ++ d.right) c.right ∙ ap (λ (l : List Placed). before ++ (l ++ c.right)) (sym d.is) ∙ ap (λ (l : List Placed). before ++ l) (sym c.is) in
    let same : map bare_op (done ++ one ∷ []) ++ map bare_op os ≡ map bare_op done ++ map bare_op (o ∷ os) =
    ap (λ (l : List Op). l ++ map bare_op os) (map-append bare_op done (one ∷ []))
    ∙ append_assoc (map bare_op done) (bare_op one ∷ []) (map bare_op os)
    ∙ ap (λ (y : Op). map bare_op done ++ y ∷ map bare_op os) same_one in
    record { tree = t.tree; spells = subst (λ (l : List Placed). SpellsOps l t.tree) is t.spells; same = t.same ∙ same }

pub ops_told : (os : List Op) (ks : List Placed) → toks ks ≡ printed_ops os → TellsOps ks (map bare_op os)
ops_told os ks h = ops_behind os [] [] no_ops ks h
