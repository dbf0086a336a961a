-- No two neighbours of printed tokens glue.
use Rattle.std.proofs.Common.{◌≡◌, ℕ, suc, ◌<◌, Bool, true, false, nat_lt, List, [], ◌∷◌, ◌++◌, refl, sym, ap, ◌∙◌, subst, ◌+◌}
use Rattle.txn_types.specs.Values.{max_value}
use Rattle.contract_grammar.specs.declared.token.Mark.TheVariants.{WordIf, WordElse, CloseBlock, Comma, Semicolon}
use Rattle.contract_grammar.specs.declared.token.Operator.{Operator}
use Rattle.contract_grammar.specs.declared.token.Token.{Token}
use Rattle.contract_grammar.specs.declared.token.Token.TheVariants.{Number, Named, Infix, Not, Close, Fixed}
use Rattle.contract_grammar.specs.declared.token.Placed.{Placed}
use Rattle.contract_grammar.specs.declared.tree.Param.{Param}
use Rattle.contract_grammar.specs.declared.tree.Head.{Head}
use Rattle.contract_grammar.specs.Tree.{Tree, Statement, Statements, nil, then_one, Op}
use Rattle.contract_grammar.specs.Grammar.{tok, fixed, level, left_level, Spells, of_number, of_name, of_group, of_not, of_binary, of_tighter, SpellsStatements, nothing, more, SpellsStatement, of_let, of_assign, of_require, of_if, of_else, of_repeat, SpellsBlock, block, SpellsParam, of_record, of_amount, SpellsParams, one_param, more_params, SpellsHead, without, with, SpellsOp, of_op, SpellsOps, no_ops, more_ops}
use Rattle.contract_printer.specs.Printed.{grouped, printed, braced, printed_stmt, printed_all, printed_else, printed_param, printed_params, printed_head, printed_op, printed_ops}
use Rattle.contract_printer.proofs.Shortest.{printed_begun}
use Rattle.contract_printer.proofs.ShortestOps.{params_one, ops_one}
use Rattle.contract_printer.proofs.Relexed.{joins, Good}
use Rattle.contract_printer.proofs.Whole.{IsWordText}

-- numbers within the limit, and names that are read as they are
abbrev pub IsUsual : Token → Type 0
IsUsual (Number n) = n < max_value + 1
IsUsual (Named x long) = IsWordText x (Named x false)
IsUsual _ = Unit {0}

abbrev pub AllUsual : List Placed → Type 0
AllUsual [] = Unit {0}
AllUsual (k ∷ ks) = IsUsual k.token × AllUsual ks

usual_parts : (xs ys : List Placed) → AllUsual (xs ++ ys) → AllUsual xs × AllUsual ys
usual_parts [] ys h = (tt, h)
usual_parts (x ∷ xs) ys h = let r = usual_parts xs ys h.1 in ((h.0, r.0), r.1)

-- whether the last token is one that a `=` would lengthen
abbrev last_joins : Bool → List Token → Bool
last_joins j [] = j
last_joins j (t ∷ ts) = last_joins (joins t) ts

last-append : (j : Bool) (xs ys : List Token) → last_joins j (xs ++ ys) ≡ last_joins (last_joins j xs) ys
last-append j [] ys = refl
last-append j (x ∷ xs) ys = last-append (joins x) xs ys

good_append : (j : Bool) (xs ys : List Token) → Good j xs → Good (last_joins j xs) ys → Good j (xs ++ ys)
good_append j [] ys g h = h
good_append j (x ∷ xs) ys g h = (g.0, g.1, good_append (joins x) xs ys g.2 h)

weaker : (j : Bool) (ts : List Token) → Good true ts → Good j ts
weaker j [] g = tt
weaker j (t ∷ ts) g = (λ e. g.0 refl, g.1, g.2)

-- tokens that glue with nothing
record Firm (ts : List Token) : Type 0 where
  good : Good true ts
  last : (j : Bool) → last_joins j ts ≡ false

-- what follows a firm part
firm_then : (j : Bool) (xs ys : List Token) → Firm xs → Good false ys → Good j (xs ++ ys)
firm_then j xs ys f g = good_append j xs ys (weaker j xs f.good) (subst (λ b. Good b ys) (sym (f.last j)) g)

group_firm : (b : Bool) (ts : List Token) → Firm ts → Firm (grouped b ts)
group_firm false ts f = f
group_firm true ts f = record {
  good = (λ e. refl, tt, firm_then false ts (Close ∷ []) f (λ e. refl, tt, tt));
  last = λ j. last-append false ts (Close ∷ []);
}

not_firm : (ts : List Token) → Firm ts → Firm (Not ∷ ts)
not_firm ts f = record { good = (λ e. refl, tt, weaker false ts f.good); last = λ j. f.last false }

binary_firm : (op : Operator) (xs ys : List Token) → Firm xs → Firm ys → Firm (xs ++ Infix op ∷ ys)
binary_firm op xs ys f g = record {
  good = firm_then true xs (Infix op ∷ ys) f (λ e. absurd cc, tt, weaker (joins (Infix op)) ys g.good);
  last = λ j. last-append j xs (Infix op ∷ ys) ∙ g.last (joins (Infix op));
}

expr_firm : {l : ℕ} {ts : List Placed} {e : Tree} → Spells l ts e → AllUsual ts → (m : ℕ) → Firm (printed m e)
expr_firm of_number u m = record { good = (λ e. refl, u.0, tt); last = λ j. refl }
expr_firm of_name u m = record { good = (λ e. refl, u.0, tt); last = λ j. refl }
expr_firm (of_group {w = w} {ts = ts} {e = e} z r) u m = rw (printed_begun m w.start e) (expr_firm r (usual_parts ts (tok z Close ∷ []) u.1).0 m)
expr_firm (of_not {e = e} r) u m = group_firm (nat_lt 2 m) (Not ∷ printed 3 e) (not_firm (printed 3 e) (expr_firm r u.1 3))
expr_firm (of_binary {xs = xs} {ys = ys} {a = a} {b = b} w op r q) u m =
    let parts = usual_parts xs (tok w (Infix op) ∷ ys) u in
    group_firm (nat_lt (level op) m) (printed (left_level op) a ++ Infix op ∷ printed (suc (level op)) b)
    (binary_firm op (printed (left_level op) a) (printed (suc (level op)) b) (expr_firm r parts.0 (left_level op)) (expr_firm q parts.1.1 (suc (level op))))
expr_firm (of_tighter r) u m = expr_firm r u m

-- ---- statements

-- tokens of whole statements
record Sound (ts : List Token) : Type 0 where
  good : Good false ts
  last : last_joins false ts ≡ false

both_sound : (xs ys : List Token) → Sound xs → Sound ys → Sound (xs ++ ys)
both_sound xs ys h k = record {
  good = good_append false xs ys h.good (subst (λ b. Good b ys) (sym h.last) k.good);
  last = last-append false xs ys ∙ ap (λ b. last_joins b ys) h.last ∙ k.last;
}

braced_sound : (ts : List Token) → Sound ts → Sound (braced ts)
braced_sound ts h = record {
  good = (λ e. refl, tt, good_append false ts (Fixed CloseBlock ∷ []) h.good (subst (λ b. Good b (Fixed CloseBlock ∷ [])) (sym h.last) (λ e. refl, tt, tt)));
  last = last-append false ts (Fixed CloseBlock ∷ []);
}

-- an expression before a semicolon
value_good : (j : Bool) (ts : List Token) → Firm ts → Good j (ts ++ Fixed Semicolon ∷ [])
value_good j ts f = firm_then j ts (Fixed Semicolon ∷ []) f (λ e. refl, tt, tt)

value_last : (j : Bool) (ts : List Token) → last_joins j (ts ++ Fixed Semicolon ∷ []) ≡ false
value_last j ts = last-append j ts (Fixed Semicolon ∷ [])

if_sound : (ts us : List Token) → Firm ts → Sound us → Sound (Fixed WordIf ∷ (ts ++ us))
if_sound ts us f h = record { good = (λ e. refl, tt, firm_then false ts us f h.good); last = last-append false ts us ∙ ap (λ b. last_joins b us) (f.last false) ∙ h.last }

else_sound : (c : Statements) → Sound (printed_all c) → Sound (printed_else c)
else_sound nil h = record { good = tt; last = refl }
else_sound (then_one ss s) h = let k = braced_sound (printed_all (then_one ss s)) h in record { good = (λ e. refl, tt, k.good); last = k.last }

mutual
  all_sound : {ts : List Placed} {ss : Statements} → SpellsStatements ts ss → AllUsual ts → Sound (printed_all ss)
  all_sound nothing u = record { good = tt; last = refl }
  all_sound (more {xs = xs} {ys = ys} {ss = ss} {s = s} r q) u = let parts = usual_parts xs ys u in both_sound (printed_all ss) (printed_stmt s) (all_sound r parts.0) (stmt_sound q parts.1)

  stmt_sound : {ts : List Placed} {s : Statement} → SpellsStatement ts s → AllUsual ts → Sound (printed_stmt s)
  stmt_sound (of_let {ts = ts} {e = e} z r) u =
      let f = expr_firm r (usual_parts ts (fixed z Semicolon ∷ []) u.1.1.1).0 0 in
      record { good = (λ e. refl, tt, (λ e. refl, u.1.0, (λ e. absurd cc, tt, value_good true (printed 0 e) f))); last = value_last true (printed 0 e) }
  stmt_sound (of_assign {ts = ts} {e = e} z r) u =
      let f = expr_firm r (usual_parts ts (fixed z Semicolon ∷ []) u.1.1).0 0 in
      record { good = (λ e. refl, u.0, (λ e. absurd cc, tt, value_good true (printed 0 e) f)); last = value_last true (printed 0 e) }
  stmt_sound (of_require {ts = ts} {e = e} z r) u =
      let f = expr_firm r (usual_parts ts (fixed z Semicolon ∷ []) u.1).0 0 in
      record { good = (λ e. refl, tt, value_good false (printed 0 e) f); last = value_last false (printed 0 e) }
  stmt_sound (of_if {ts = ts} {bs = bs} {e = e} {b = b} r q) u =
      let parts = usual_parts ts bs u.1 in
      if_sound (printed 0 e) (braced (printed_all b) ++ []) (expr_firm r parts.0 0) (both_sound (braced (printed_all b)) [] (braced_sound (printed_all b) (block_sound q parts.1)) (record { good = tt; last = refl }))
  stmt_sound (of_else {ts = ts} {bs = bs} {cs = cs} {e = e} {b = b} {c = c} v r q p) u =
      let parts = usual_parts ts (bs ++ fixed v WordElse ∷ cs) u.1 in
      let both = usual_parts bs (fixed v WordElse ∷ cs) parts.1 in
      if_sound (printed 0 e) (braced (printed_all b) ++ printed_else c) (expr_firm r parts.0 0)
      (both_sound (braced (printed_all b)) (printed_else c) (braced_sound (printed_all b) (block_sound q both.0)) (else_sound c (block_sound p both.1.1)))
  stmt_sound (of_repeat {b = b} q) u =
      let k = braced_sound (printed_all b) (block_sound q u.1.1) in
      record { good = (λ e. refl, tt, (λ e. refl, u.1.0, k.good)); last = k.last }

  block_sound : {bs : List Placed} {b : Statements} → SpellsBlock bs b → AllUsual bs → Sound (printed_all b)
  block_sound (block {xs = xs} z r) u = all_sound r (usual_parts xs (fixed z CloseBlock ∷ []) u.1).0

-- ---- operations

param_sound : {xs : List Placed} {q : Param} → SpellsParam xs q → AllUsual xs → Sound (printed_param q)
param_sound of_record u = record { good = (λ e. refl, u.0, (λ e. refl, tt, (λ e. refl, tt, tt))); last = refl }
param_sound of_amount u = record { good = (λ e. refl, u.0, (λ e. refl, tt, (λ e. refl, tt, tt))); last = refl }

params_sound : {xs : List Placed} {ps : List Param} → SpellsParams xs ps → AllUsual xs → Sound (printed_params ps)
params_sound (one_param {q = q} r) u = both_sound (printed_param q) [] (param_sound r u) (record { good = tt; last = refl })
params_sound (more_params {xs = xs} {ys = ys} {ps = ps} {q = q} v r k) u =
    let parts = usual_parts xs (fixed v Comma ∷ ys) u in
    let last = param_sound k parts.1.1 in
    rw (params_one r q) (both_sound (printed_params ps) (Fixed Comma ∷ printed_param q) (params_sound r parts.0) (record { good = (λ e. refl, tt, last.good); last = last.last }))

head_sound : {ts : List Placed} {h : Head} → SpellsHead ts h → AllUsual ts → Sound (printed_head h)
head_sound without u = record { good = (λ e. refl, tt, (λ e. refl, u.1.0, (λ e. refl, tt, (λ e. refl, tt, tt)))); last = refl }
head_sound (with {xs = xs} {ps = ps} z r) u =
    let k = both_sound (printed_params ps) (Close ∷ []) (params_sound r (usual_parts xs (tok z Close ∷ []) u.1.1.1).0) (record { good = (λ e. refl, tt, tt); last = refl }) in
    record { good = (λ e. refl, tt, (λ e. refl, u.1.0, (λ e. refl, tt, k.good))); last = k.last }

op_sound : {ts : List Placed} {o : Op} → SpellsOp ts o → AllUsual ts → Sound (printed_op o)
op_sound (of_op {hs = hs} {bs = bs} {h = h} {b = b} r q) u =
    let parts = usual_parts hs bs u in
    both_sound (printed_head h) (braced (printed_all b)) (head_sound r parts.0) (braced_sound (printed_all b) (block_sound q parts.1))

ops_sound : {ts : List Placed} {os : List Op} → SpellsOps ts os → AllUsual ts → Sound (printed_ops os)
ops_sound no_ops u = record { good = tt; last = refl }
ops_sound (more_ops {xs = xs} {ys = ys} {os = os} {o = o} r q) u =
    let parts = usual_parts xs ys u in
    rw (ops_one os o) (both_sound (printed_ops os) (printed_op o) (ops_sound r parts.0) (op_sound q parts.1))

-- the printed tokens of operations that were read don't glue
pub printed_good : {ts : List Placed} {os : List Op} → SpellsOps ts os → AllUsual ts → Good false (printed_ops os)
printed_good r u = (ops_sound r u).good
