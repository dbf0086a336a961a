-- Each contract is read as the grammar has it.
use Rattle.std.proofs.Common.{◌≡◌, ◌≢◌, ℕ, Bool, List, [], ◌∷◌, ◌++◌, Option, Some, None, option_map, option_and_then, refl, ap, ◌∙◌}
use Rattle.contract_grammar.specs.declared.token.Mark.TheVariants.{WordLet, WordRequire, WordIf, WordElse, WordRepeat, WordRecord, WordNumber, OpenBlock, CloseBlock, Colon, Comma, Semicolon, Becomes}
use Rattle.contract_grammar.specs.declared.token.Token.{Token}
use Rattle.contract_grammar.specs.declared.token.Token.TheVariants.{Number, Named, Close, Fixed}
use Rattle.contract_grammar.specs.declared.token.Extent.{Extent}
use Rattle.contract_grammar.specs.declared.token.Placed.{Placed}
use Rattle.contract_grammar.specs.declared.tree.Param.{Param}
use Rattle.contract_grammar.specs.declared.tree.Head.{Head}
use Rattle.contract_grammar.specs.Tree.{Tree, Statement, define, assign, demand, choose, again, Statements, nil, Op}
use Rattle.contract_grammar.specs.Grammar.{tok, fixed, Spells, SpellsStatements, nothing, more, SpellsStatement, of_let, of_assign, of_require, of_if, of_else, of_repeat, SpellsBlock, block, SpellsParam, of_record, of_amount, SpellsParams, one_param, more_params, head, SpellsHead, without, with, SpellsOp, of_op, SpellsOps, no_ops, more_ops, SpellsContract}
use Rattle.contract_grammar.specs.Expressions.{Partial, want, have, taken, ended, after}
use Rattle.contract_grammar.specs.Modes.{Purpose, whole, first_block, second_block, turns, Unclosed, Use, for_let, for_assign, for_require, for_if, Mode, at_op, at_op_name, at_open, at_first, at_param, at_colon, at_kind, at_more, at_block, at_stmt, at_let, at_equals, in_expr, at_count, at_else, At, at, with_stmt, with_param, closed, on_semicolon, on_brace, on_expr, on_mode, advance, reached, begin, some_ops, finished, at_end}
use Rattle.contract_grammar.specs.Modes as mode
use Rattle.contract_grammar.proofs.Expressions.{sentence_read}

-- an `if` that may still have a second block, without one
abbrev pub settle : Mode → List Unclosed → List Op → At
settle (at_else e b) bs os = at at_stmt (with_stmt (choose e b nil) bs) os
settle m bs os = at m bs os

abbrev pub settled : At → At
settled z = settle z.mode z.blocks z.done

same : (m : Mode) (bs : List Unclosed) (os : List Op) (p : ℕ) (t : Token) → t ≢ Fixed WordElse → on_mode m p t bs os ≡ on_mode (settle m bs os).mode p t (settle m bs os).blocks (settle m bs os).done
same (at_else e b) bs os p (Fixed WordElse) h = absurd (h refl)
same (at_else e b) bs os p _ h = refl
same at_op bs os p t h = refl
same at_op_name bs os p t h = refl
same (at_open a x) bs os p t h = refl
same (at_first c) bs os p t h = refl
same (at_param c) bs os p t h = refl
same (at_colon c a x) bs os p t h = refl
same (at_kind c a x) bs os p t h = refl
same (at_more c) bs os p t h = refl
same (at_block w) bs os p t h = refl
same at_stmt bs os p t h = refl
same at_let bs os p t h = refl
same (at_equals u) bs os p t h = refl
same (in_expr u s) bs os p t h = refl
same at_count bs os p t h = refl

-- a token that begins or closes goes as from the settled mode
from_settled : (z a : At) (k : Placed) (o : Option At) → k.token ≢ Fixed WordElse → settled z ≡ a → advance a k ≡ o → advance z k ≡ o
unfolding advance
from_settled z a k o h is next = same z.mode z.blocks z.done k.span.start k.token h ∙ ap (λ (y : At). on_mode y.mode k.span.start k.token y.blocks y.done) is ∙ next

go : (a b : At) (k : Placed) (ks : List Placed) → advance a k ≡ Some b → reached a (k ∷ ks) ≡ reached b ks
unfolding reached
go a b k ks h = ap (option_and_then (λ z. reached z ks)) h

pub reached-append : (a : At) (xs ys : List Placed) → reached a (xs ++ ys) ≡ option_and_then (λ b. reached b ys) (reached a xs)
unfolding reached
reached-append a [] ys = refl
reached-append a (k ∷ xs) ys = elim (advance a k) as (λ o. option_and_then (λ b. reached b (xs ++ ys)) o ≡ option_and_then (λ b. reached b ys) (option_and_then (λ b. reached b xs) o)) [ None ↦ refl | Some b ↦ reached-append b xs ys ]

pub both : (a b : At) (xs ys : List Placed) → reached a xs ≡ Some b → reached a (xs ++ ys) ≡ reached b ys
both a b xs ys h = reached-append a xs ys ∙ ap (option_and_then (λ z. reached z ys)) h

abbrev pub one : At → Option At
one a = Some a

pub none : {A : Type 0} (a : At) → None ≡ one a → A
none a h = absurd cc

no_state : {A : Type 0} (s : Partial) → None ≡ Some s → A
no_state s h = absurd cc

-- a token of an expression stays in it
pub expr_goes : (u : Use) (s : Partial) (p : ℕ) (t : Token) (z : Partial) (bs : List Unclosed) (os : List Op) → taken s p t ≡ Some z → on_expr u s p t bs os ≡ one (at (in_expr u z) bs os)
unfolding taken
expr_goes u (want st) p (Fixed Semicolon) z bs os h = no_state z h
expr_goes u (have e st) p (Fixed Semicolon) z bs os h = no_state z h
expr_goes u (want st) p (Fixed OpenBlock) z bs os h = no_state z h
expr_goes u (have e st) p (Fixed OpenBlock) z bs os h = no_state z h
expr_goes u s p _ z bs os h = ap (option_map (λ y. at (in_expr u y) bs os)) h

pub expr_run : (u : Use) (s s' : Partial) (ts : List Placed) (bs : List Unclosed) (os : List Op) → after s ts ≡ Some s' → reached (at (in_expr u s) bs os) ts ≡ one (at (in_expr u s') bs os)
unfolding after reached advance
expr_run u s s' [] bs os h = ap (option_map (λ y. at (in_expr u y) bs os)) h
expr_run u s s' (k ∷ ts) bs os h = by_step (taken s k.span.start k.token) refl h (λ z. expr_run u z s' ts bs os)
  where
    by_step : (o : Option Partial) → taken s k.span.start k.token ≡ o → option_and_then (λ z. after z ts) o ≡ Some s' → ((z : Partial) → after z ts ≡ Some s' → reached (at (in_expr u z) bs os) ts ≡ one (at (in_expr u s') bs os))
        → reached (at (in_expr u s) bs os) (k ∷ ts) ≡ one (at (in_expr u s') bs os)
    by_step None is h f = no_state s' h
    by_step (Some z) is h f = go (at (in_expr u s) bs os) (at (in_expr u z) bs os) k ts (expr_goes u s k.span.start k.token z bs os is) ∙ f z h

expr_then : (u : Use) (ts ks : List Placed) (e : Tree) (bs : List Unclosed) (os : List Op) (o : Option At) → Spells 0 ts e
    → ((s : Partial) → ended s ≡ Some e → reached (at (in_expr u s) bs os) ks ≡ o) → reached (at (in_expr u (want [])) bs os) (ts ++ ks) ≡ o
expr_then u ts ks e bs os o r f =
    let read = sentence_read ts e r in
    both (at (in_expr u (want [])) bs os) (at (in_expr u read.0) bs os) ts ks (expr_run u (want []) read.0 ts bs os read.1) ∙ f read.0 read.2

pub record Reads (z : At) (ts : List Placed) (a : At) : Type 0 where
  pub last : At
  pub comes : reached z ts ≡ Some last
  pub is : settled last ≡ a

one_more : (a b : At) (k : Placed) → advance a k ≡ Some b → reached a (k ∷ []) ≡ one b
unfolding reached
one_more a b k h = go a b k [] h

exact : (z a : At) (ts : List Placed) → reached z ts ≡ one a → settled a ≡ a → Reads z ts a
exact z a ts h is = record { last = a; comes = h; is = is }

mutual
  unfolding reached advance

  stmts_read : {ts : List Placed} {ss : Statements} → SpellsStatements ts ss → (w : Purpose) (bs : List Unclosed) (os : List Op) → Reads (at at_stmt (mode.unclosed w nil ∷ bs) os) ts (at at_stmt (mode.unclosed w ss ∷ bs) os)
  stmts_read nothing w bs os = record { last = at at_stmt (mode.unclosed w nil ∷ bs) os; comes = refl; is = refl }
  stmts_read (more {xs = xs} {ys = ys} {ss = ss} r q) w bs os =
      let first = stmts_read r w bs os in
      let second = stmt_read q first.last (mode.unclosed w ss ∷ bs) os first.is in
      record { last = second.last; comes = both (at at_stmt (mode.unclosed w nil ∷ bs) os) first.last xs ys first.comes ∙ second.comes; is = second.is }

  block_read : {ts : List Placed} {b : Statements} → SpellsBlock ts b → (y : At) (w : Purpose) (bs : List Unclosed) (os : List Op) (a : At) → ((v : Extent) → advance y (fixed v OpenBlock) ≡ one (at at_stmt (mode.unclosed w nil ∷ bs) os))
      → closed (mode.unclosed w b ∷ bs) os ≡ one a → reached y ts ≡ one a
  block_read (block {w = v} {xs = xs} {ss = ss} z r) y w bs os a opens closes =
      let inside = stmts_read r w bs os in
      go y (at at_stmt (mode.unclosed w nil ∷ bs) os) (fixed v OpenBlock) (xs ++ fixed z CloseBlock ∷ []) (opens v)
      ∙ both (at at_stmt (mode.unclosed w nil ∷ bs) os) inside.last xs (fixed z CloseBlock ∷ []) inside.comes
      ∙ one_more inside.last a (fixed z CloseBlock) (from_settled inside.last (at at_stmt (mode.unclosed w ss ∷ bs) os) (fixed z CloseBlock) _ (λ h. cc) inside.is closes)

  stmt_read : {ts : List Placed} {s : Statement} → SpellsStatement ts s → (z : At) (bs : List Unclosed) (os : List Op) → settled z ≡ at at_stmt bs os → Reads z ts (at at_stmt (with_stmt s bs) os)
  stmt_read (of_let {w = w} {v = v} {u = u} {x = x} {long = long} {ts = ts} {e = e} y r) z bs os h = record {
    last = at at_stmt (with_stmt (define v.start x e) bs) os;
    comes = go z (at at_let bs os) (fixed w WordLet) (tok v (Named x long) ∷ fixed u Becomes ∷ (ts ++ fixed y Semicolon ∷ [])) (from_settled z (at at_stmt bs os) (fixed w WordLet) _ (λ g. cc) h refl)
        ∙ expr_then (for_let v.start x) ts (fixed y Semicolon ∷ []) e bs os _ r (λ s is. one_more (at (in_expr (for_let v.start x) s) bs os) (at at_stmt (with_stmt (define v.start x e) bs) os) (fixed y Semicolon) (ap (λ o. on_semicolon (for_let v.start x) o bs os) is));
    is = refl;
  }
  stmt_read (of_assign {v = v} {u = u} {x = x} {long = long} {ts = ts} {e = e} y r) z bs os h = record {
    last = at at_stmt (with_stmt (assign v.start x e) bs) os;
    comes = go z (at (at_equals (for_assign v.start x)) bs os) (tok v (Named x long)) (fixed u Becomes ∷ (ts ++ fixed y Semicolon ∷ [])) (from_settled z (at at_stmt bs os) (tok v (Named x long)) _ (λ g. cc) h refl)
        ∙ expr_then (for_assign v.start x) ts (fixed y Semicolon ∷ []) e bs os _ r (λ s is. one_more (at (in_expr (for_assign v.start x) s) bs os) (at at_stmt (with_stmt (assign v.start x e) bs) os) (fixed y Semicolon) (ap (λ o. on_semicolon (for_assign v.start x) o bs os) is));
    is = refl;
  }
  stmt_read (of_require {w = w} {ts = ts} {e = e} y r) z bs os h = record {
    last = at at_stmt (with_stmt (demand e) bs) os;
    comes = go z (at (in_expr for_require (want [])) bs os) (fixed w WordRequire) (ts ++ fixed y Semicolon ∷ []) (from_settled z (at at_stmt bs os) (fixed w WordRequire) _ (λ g. cc) h refl)
        ∙ expr_then for_require ts (fixed y Semicolon ∷ []) e bs os _ r (λ s is. one_more (at (in_expr for_require s) bs os) (at at_stmt (with_stmt (demand e) bs) os) (fixed y Semicolon) (ap (λ o. on_semicolon for_require o bs os) is));
    is = refl;
  }
  stmt_read (of_if {w = w} {ts = ts} {bs = xs} {e = e} {b = b} r q) z bs os h = record {
    last = at (at_else e b) bs os;
    comes = go z (at (in_expr for_if (want [])) bs os) (fixed w WordIf) (ts ++ xs) (from_settled z (at at_stmt bs os) (fixed w WordIf) _ (λ g. cc) h refl)
        ∙ expr_then for_if ts xs e bs os _ r (λ s is. block_read q (at (in_expr for_if s) bs os) (first_block e) bs os (at (at_else e b) bs os) (λ v. ap (λ o. on_brace for_if o bs os) is) refl);
    is = refl;
  }
  stmt_read (of_else {w = w} {ts = ts} {bs = xs} {cs = ys} {e = e} {b = b} {c = c} v r q p) z bs os h = record {
    last = at at_stmt (with_stmt (choose e b c) bs) os;
    comes = go z (at (in_expr for_if (want [])) bs os) (fixed w WordIf) (ts ++ (xs ++ fixed v WordElse ∷ ys)) (from_settled z (at at_stmt bs os) (fixed w WordIf) _ (λ g. cc) h refl)
        ∙ expr_then for_if ts (xs ++ fixed v WordElse ∷ ys) e bs os _ r (λ s is.
        both (at (in_expr for_if s) bs os) (at (at_else e b) bs os) xs (fixed v WordElse ∷ ys)
        (block_read q (at (in_expr for_if s) bs os) (first_block e) bs os (at (at_else e b) bs os) (λ g. ap (λ o. on_brace for_if o bs os) is) refl)
        ∙ block_read p (at (at_block (second_block e b)) bs os) (second_block e b) bs os (at at_stmt (with_stmt (choose e b c) bs) os) (λ g. refl) refl);
    is = refl;
  }
  stmt_read (of_repeat {w = w} {v = v} {n = n} {bs = xs} {b = b} q) z bs os h = record {
    last = at at_stmt (with_stmt (again n b) bs) os;
    comes = go z (at at_count bs os) (fixed w WordRepeat) (tok v (Number n) ∷ xs) (from_settled z (at at_stmt bs os) (fixed w WordRepeat) _ (λ g. cc) h refl)
        ∙ block_read q (at (at_block (turns n)) bs os) (turns n) bs os (at at_stmt (with_stmt (again n b) bs) os) (λ g. refl) refl;
    is = refl;
  }

param_read : {xs : List Placed} {q : Param} → SpellsParam xs q → (h : Head) (y : At) (bs : List Unclosed) (os : List Op)
    → ((v : Extent) (x : List ℕ) (long : Bool) → advance y (tok v (Named x long)) ≡ one (at (at_colon h v.start x) bs os)) → reached y xs ≡ one (at (at_more (with_param h q)) bs os)
unfolding reached advance
param_read (of_record {w = w} {v = v} {u = u} {x = x} {long = long}) h y bs os named = go y (at (at_colon h w.start x) bs os) (tok w (Named x long)) (fixed v Colon ∷ fixed u WordRecord ∷ []) (named w x long)
param_read (of_amount {w = w} {v = v} {u = u} {x = x} {long = long}) h y bs os named = go y (at (at_colon h w.start x) bs os) (tok w (Named x long)) (fixed v Colon ∷ fixed u WordNumber ∷ []) (named w x long)

params_read : {xs : List Placed} {ps : List Param} → SpellsParams xs ps → (a : ℕ) (x : List ℕ) (bs : List Unclosed) (os : List Op) → reached (at (at_first (head a x [])) bs os) xs ≡ one (at (at_more (head a x ps)) bs os)
unfolding reached advance
params_read (one_param r) a x bs os = param_read r (head a x []) (at (at_first (head a x [])) bs os) bs os (λ v y long. refl)
params_read (more_params {xs = xs} {ys = ys} {ps = ps} {q = q} v r k) a x bs os =
    both (at (at_first (head a x [])) bs os) (at (at_more (head a x ps)) bs os) xs (fixed v Comma ∷ ys) (params_read r a x bs os)
    ∙ param_read k (head a x ps) (at (at_param (head a x ps)) bs os) bs os (λ v y long. refl)

head_read : {ts : List Placed} {h : Head} → SpellsHead ts h → (bs : List Unclosed) (os : List Op) → reached (at at_op bs os) ts ≡ one (at (at_block (whole h)) bs os)
unfolding reached advance
head_read without bs os = refl
head_read (with {v = v} {x = x} {xs = xs} {ps = ps} z r) bs os = both (at (at_first (head v.start x [])) bs os) (at (at_more (head v.start x ps)) bs os) xs (tok z Close ∷ []) (params_read r v.start x bs os)

op_read : {ts : List Placed} {o : Op} → SpellsOp ts o → (os : List Op) → reached (at at_op [] os) ts ≡ one (at at_op [] (os ++ o ∷ []))
unfolding advance
op_read (of_op {hs = hs} {bs = xs} {h = h} {b = b} r q) os =
    both (at at_op [] os) (at (at_block (whole h)) [] os) hs xs (head_read r [] os)
    ∙ block_read q (at (at_block (whole h)) [] os) (whole h) [] os (at at_op [] (os ++ record { head = h; body = b } ∷ [])) (λ v. refl) refl

pub ops_read : {ts : List Placed} {os : List Op} → SpellsOps ts os → reached begin ts ≡ one (at at_op [] os)
unfolding reached
ops_read no_ops = refl
ops_read (more_ops {xs = xs} {ys = ys} {os = os} r q) = both begin (at at_op [] os) xs ys (ops_read r) ∙ op_read q os

some_all : (os : List Op) → os ≢ [] → some_ops os ≡ Some os
some_all [] h = absurd (h refl)
some_all (o ∷ os) h = refl

pub contract_read : {ts : List Placed} {os : List Op} → SpellsContract ts os → reached begin ts ≡ one (at at_op [] os) × (at_end (at at_op [] os) ≡ Some os)
unfolding at_end
contract_read {os = os} r = (ops_read r.0, some_all os r.1)
