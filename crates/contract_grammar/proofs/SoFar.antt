-- What the tokens so far spell.
use Rattle.std.proofs.Common.{◌≡◌, ℕ, Bool, List, [], ◌∷◌, ◌++◌, Option, Some, None, option_map, option_and_then, refl, sym, subst, append_assoc}
use Rattle.std.proofs.lemmas.List.{append-nil}
use Rattle.contract_grammar.specs.declared.token.Mark.TheVariants.{WordOp, WordLet, WordRequire, WordIf, WordElse, WordRepeat, WordRecord, WordNumber, OpenBlock, CloseBlock, Colon, Comma, Semicolon, Becomes}
use Rattle.contract_grammar.specs.declared.token.Token.{Token}
use Rattle.contract_grammar.specs.declared.token.Token.TheVariants.{Number, Named, Open, Close, Fixed}
use Rattle.contract_grammar.specs.declared.token.Extent.{Extent}
use Rattle.contract_grammar.specs.declared.token.Placed.{Placed}
use Rattle.contract_grammar.specs.declared.tree.Param.{Param}
use Rattle.contract_grammar.specs.declared.tree.Head.{Head}
use Rattle.contract_grammar.specs.Tree.{Tree, Statement, choose, again, Statements, Op}
use Rattle.contract_grammar.specs.Grammar.{tok, fixed, Spells, SpellsStatements, nothing, more, SpellsStatement, of_let, of_assign, of_require, of_if, of_else, of_repeat, SpellsBlock, block, SpellsParam, of_record, of_amount, SpellsParams, one_param, more_params, head, SpellsHead, without, with, of_op, SpellsOps, no_ops, more_ops}
use Rattle.contract_grammar.specs.Expressions.{Partial, taken, ended}
use Rattle.contract_grammar.specs.Modes.{Purpose, whole, first_block, second_block, turns, Unclosed, Use, for_let, for_assign, for_require, for_if, Mode, at_op, at_op_name, at_open, at_first, at_param, at_colon, at_kind, at_more, at_block, at_stmt, at_let, at_equals, in_expr, at_count, at_else, At, at, with_stmt, with_param, closed, on_op, on_op_name, on_open, on_first, on_param, on_colon, on_kind, on_more, on_block, on_stmt, on_let, on_equals, on_count, on_semicolon, on_brace, on_expr, on_else, on_mode, advance, reached, begin, some_ops, finished, at_end}
use Rattle.contract_grammar.specs.Modes as mode
use Rattle.contract_grammar.proofs.Spelled.{ReadTo, step_reads, ended_reads, empty}
use Rattle.contract_grammar.proofs.Runs.{one, none}

-- the tokens of a statement or an operation, up to a block of it
pub data Opens : List Unclosed → Purpose → List Placed → Type 0 where
  o_whole : {hs : List Placed} {h : Head} → SpellsHead hs h → Opens [] (whole h) hs
  o_first : {c : Purpose} {ss : Statements} {bs : List Unclosed} {w : Extent} {ts : List Placed} {e : Tree} → Spells 0 ts e → Opens (mode.unclosed c ss ∷ bs) (first_block e) (fixed w WordIf ∷ ts)
  o_second : {c : Purpose} {ss : Statements} {bs : List Unclosed} {w : Extent} {ts ys : List Placed} {e : Tree} {b : Statements} (v : Extent) → Spells 0 ts e → SpellsBlock ys b
      → Opens (mode.unclosed c ss ∷ bs) (second_block e b) (fixed w WordIf ∷ (ts ++ (ys ++ fixed v WordElse ∷ [])))
  o_turns : {c : Purpose} {ss : Statements} {bs : List Unclosed} {w v : Extent} {n : ℕ} → Opens (mode.unclosed c ss ∷ bs) (turns n) (fixed w WordRepeat ∷ tok v (Number n) ∷ [])

-- the tokens of the operations before, and inside the open blocks
pub data Inside : List Op → List Unclosed → List Placed → Type 0 where
  bottom : {os : List Op} {p : List Placed} → SpellsOps p os → Inside os [] p
  opened : {os : List Op} {bs : List Unclosed} {w : Purpose} {ss : Statements} {p own xs : List Placed} (z : Extent) → Inside os bs p → Opens bs w own → SpellsStatements xs ss
      → Inside os (mode.unclosed w ss ∷ bs) (p ++ (own ++ fixed z OpenBlock ∷ xs))

-- a head's tokens, with some parameters
pub data HasParams : Head → List Placed → Type 0 where
  has : {w v u : Extent} {x : List ℕ} {long : Bool} {xs : List Placed} {ps : List Param} → SpellsParams xs ps → HasParams (head v.start x ps) (fixed w WordOp ∷ tok v (Named x long) ∷ tok u Open ∷ xs)

-- a head's tokens, up to a further parameter
pub data AwaitsParam : Head → List Placed → Type 0 where
  awaits_first : {w v u : Extent} {x : List ℕ} {long : Bool} → AwaitsParam (head v.start x []) (fixed w WordOp ∷ tok v (Named x long) ∷ tok u Open ∷ [])
  awaits_more : {h : Head} {own : List Placed} (c : Extent) → HasParams h own → AwaitsParam h (own ++ fixed c Comma ∷ [])

-- the tokens before a `=`
pub data Names : Use → List Placed → Type 0 where
  names_let : {w v : Extent} {x : List ℕ} {long : Bool} → Names (for_let v.start x) (fixed w WordLet ∷ tok v (Named x long) ∷ [])
  names_assign : {v : Extent} {x : List ℕ} {long : Bool} → Names (for_assign v.start x) (tok v (Named x long) ∷ [])

-- the tokens before an expression
pub data Uses : Use → List Placed → Type 0 where
  uses_let : {w v u : Extent} {x : List ℕ} {long : Bool} → Uses (for_let v.start x) (fixed w WordLet ∷ tok v (Named x long) ∷ fixed u Becomes ∷ [])
  uses_assign : {v u : Extent} {x : List ℕ} {long : Bool} → Uses (for_assign v.start x) (tok v (Named x long) ∷ fixed u Becomes ∷ [])
  uses_require : {w : Extent} → Uses for_require (fixed w WordRequire ∷ [])
  uses_if : {w : Extent} → Uses for_if (fixed w WordIf ∷ [])

-- the tokens of what has begun, in this mode
pub data Own : List Unclosed → Mode → List Placed → Type 0 where
  own_op : Own [] at_op []
  own_op_name : {w : Extent} → Own [] at_op_name (fixed w WordOp ∷ [])
  own_open : {w v : Extent} {x : List ℕ} {long : Bool} → Own [] (at_open v.start x) (fixed w WordOp ∷ tok v (Named x long) ∷ [])
  own_first : {w v u : Extent} {x : List ℕ} {long : Bool} → Own [] (at_first (head v.start x [])) (fixed w WordOp ∷ tok v (Named x long) ∷ tok u Open ∷ [])
  own_param : {h : Head} {own : List Placed} (c : Extent) → HasParams h own → Own [] (at_param h) (own ++ fixed c Comma ∷ [])
  own_colon : {h : Head} {own : List Placed} (v : Extent) (x : List ℕ) (long : Bool) → AwaitsParam h own → Own [] (at_colon h v.start x) (own ++ tok v (Named x long) ∷ [])
  own_kind : {h : Head} {own : List Placed} (v : Extent) (x : List ℕ) (long : Bool) (c : Extent) → AwaitsParam h own → Own [] (at_kind h v.start x) (own ++ tok v (Named x long) ∷ fixed c Colon ∷ [])
  own_more : {h : Head} {own : List Placed} → HasParams h own → Own [] (at_more h) own
  own_block : {bs : List Unclosed} {w : Purpose} {own : List Placed} → Opens bs w own → Own bs (at_block w) own
  own_stmt : {c : Purpose} {ss : Statements} {bs : List Unclosed} → Own (mode.unclosed c ss ∷ bs) at_stmt []
  own_let : {c : Purpose} {ss : Statements} {bs : List Unclosed} {w : Extent} → Own (mode.unclosed c ss ∷ bs) at_let (fixed w WordLet ∷ [])
  own_equals : {c : Purpose} {ss : Statements} {bs : List Unclosed} {u : Use} {own : List Placed} → Names u own → Own (mode.unclosed c ss ∷ bs) (at_equals u) own
  own_expr : {c : Purpose} {ss : Statements} {bs : List Unclosed} {u : Use} {s : Partial} {own : List Placed} (ts : List Placed) → Uses u own → ReadTo s ts → Own (mode.unclosed c ss ∷ bs) (in_expr u s) (own ++ ts)
  own_count : {c : Purpose} {ss : Statements} {bs : List Unclosed} {w : Extent} → Own (mode.unclosed c ss ∷ bs) at_count (fixed w WordRepeat ∷ [])
  own_else : {c : Purpose} {ss : Statements} {bs : List Unclosed} {w : Extent} {ts ys : List Placed} {e : Tree} {b : Statements} → Spells 0 ts e → SpellsBlock ys b → Own (mode.unclosed c ss ∷ bs) (at_else e b) (fixed w WordIf ∷ (ts ++ ys))

-- the tokens so far, in this state
pub record HoldsAt (z : At) (p : List Placed) : Type 0 where
  pub before : List Placed
  pub holds : Inside z.done z.blocks before
  pub own : List Placed
  pub owns : Own z.blocks z.mode own
  pub parts : p ≡ before ++ own

pub put_inside : {os : List Op} {b : Unclosed} {bs : List Unclosed} {q ys : List Placed} {s : Statement} → Inside os (b ∷ bs) q → SpellsStatement ys s → Inside os (with_stmt s (b ∷ bs)) (q ++ ys)
put_inside (opened z i o r) k = rw (append_assoc, append_assoc) (opened z i o (more r k))

pub at_bottom : {os : List Op} {p : List Placed} → Inside os [] p → SpellsOps p os
at_bottom (bottom r) = r

pub has_more : {h : Head} {own ys : List Placed} {q : Param} → AwaitsParam h own → SpellsParam ys q → HasParams (with_param h q) (own ++ ys)
has_more awaits_first r = has (one_param r)
has_more (awaits_more c (has k)) r = rw append_assoc (has (more_params c k r))

become : (a a' : At) (p : List Placed) → one a ≡ one a' → HoldsAt a p → HoldsAt a' p
become a a' p h r = let is : a ≡ a' = cc in subst (λ z. HoldsAt z p) is r

stays : {os : List Op} {bs : List Unclosed} {before own : List Placed} {m : Mode} → Inside os bs before → Own bs m own → HoldsAt (at m bs os) (before ++ own)
stays {before = before} {own = own} i o = record { before = before; holds = i; own = own; owns = o; parts = refl }

ends : {os : List Op} {c : Purpose} {ss : Statements} {bs : List Unclosed} {q : List Placed} → Inside os (mode.unclosed c ss ∷ bs) q → HoldsAt (at at_stmt (mode.unclosed c ss ∷ bs) os) q
ends {q = q} i = record { before = q; holds = i; own = []; owns = own_stmt; parts = sym (append-nil q) }

-- ---- one token more

closes_block : {os : List Op} {bs : List Unclosed} {c : Purpose} {ss : Statements} {p own xs : List Placed} (z : Extent) (a : At) (y : Extent) → Inside os bs p → Opens bs c own → SpellsStatements xs ss
    → closed (mode.unclosed c ss ∷ bs) os ≡ one a → HoldsAt a (p ++ (own ++ fixed z OpenBlock ∷ (xs ++ fixed y CloseBlock ∷ [])))
closes_block {os = os} {ss = ss} z a y i (o_whole {h = h} k) r e =
    become (at at_op [] (os ++ record { head = h; body = ss } ∷ [])) a _ e (record { before = _; holds = bottom (more_ops (at_bottom i) (of_op k (block y r))); own = []; owns = own_op; parts = sym (append-nil _) })
closes_block {os = os} {bs = bs} {ss = ss} z a y i (o_first {e = t} k) r e = become (at (at_else t ss) bs os) a _ e (stays i (own_else k (block y r)))
closes_block {os = os} {bs = bs} {ss = ss} {xs = xs} z a y i (o_second {w = w} {ts = ts} {ys = ys} {e = t} {b = b} v k q) r e =
    become (at at_stmt (with_stmt (choose t b ss) bs) os) a _ e (rw (append_assoc, append_assoc) (ends (put_inside i (of_else {w = w} v k q (block y r)))))
closes_block {os = os} {bs = bs} {ss = ss} z a y i (o_turns {n = n}) r e = become (at at_stmt (with_stmt (again n ss) bs) os) a _ e (ends (put_inside i (of_repeat (block y r))))

closed_reads : {os : List Op} {bs : List Unclosed} {p : List Placed} (y : Extent) (a : At) → Inside os bs p → closed bs os ≡ one a → HoldsAt a (p ++ fixed y CloseBlock ∷ [])
closed_reads y a (bottom r) e = none a e
closed_reads y a (opened {p = p} {own = own} {xs = xs} z i o r) e = rw (append_assoc, append_assoc) (closes_block z a y i o r e)

op_reads : {os : List Op} {before : List Placed} → Inside os [] before → (w : Extent) (t : Token) (a : At) → on_op t [] os ≡ one a → HoldsAt a (before ++ tok w t ∷ [])
op_reads i w (Fixed WordOp) a e = become _ a _ e (stays i own_op_name)
op_reads i w _ a e = none a e

op_name_reads : {os : List Op} {before : List Placed} (v : Extent) → Inside os [] before → (w : Extent) (t : Token) (a : At) → on_op_name w.start t [] os ≡ one a → HoldsAt a (before ++ fixed v WordOp ∷ tok w t ∷ [])
op_name_reads v i w (Named x long) a e = become _ a _ e (stays i own_open)
op_name_reads v i w _ a e = none a e

open_reads : {os : List Op} {before : List Placed} (v u : Extent) (x : List ℕ) (long : Bool) → Inside os [] before → (w : Extent) (t : Token) (a : At) → on_open u.start x t [] os ≡ one a
    → HoldsAt a (before ++ fixed v WordOp ∷ tok u (Named x long) ∷ tok w t ∷ [])
open_reads v u x long i w Open a e = become _ a _ e (stays i own_first)
open_reads v u x long i w _ a e = none a e

first_reads : {os : List Op} {before : List Placed} (v u z : Extent) (x : List ℕ) (long : Bool) → Inside os [] before → (w : Extent) (t : Token) (a : At) → on_first (head u.start x []) w.start t [] os ≡ one a
    → HoldsAt a (before ++ fixed v WordOp ∷ tok u (Named x long) ∷ tok z Open ∷ tok w t ∷ [])
first_reads v u z x long i w (Named y lengthy) a e = become _ a _ e (stays i (own_colon w y lengthy awaits_first))
first_reads v u z x long i w Close a e = become _ a _ e (stays i (own_block (o_whole without)))
first_reads v u z x long i w _ a e = none a e

param_reads : {os : List Op} {before own : List Placed} {h : Head} (c : Extent) → Inside os [] before → HasParams h own → (w : Extent) (t : Token) (a : At) → on_param h w.start t [] os ≡ one a
    → HoldsAt a (before ++ ((own ++ fixed c Comma ∷ []) ++ tok w t ∷ []))
param_reads c i o w (Named y lengthy) a e = become _ a _ e (stays i (own_colon w y lengthy (awaits_more c o)))
param_reads c i o w _ a e = none a e

colon_reads : {os : List Op} {before own : List Placed} {h : Head} (v : Extent) (x : List ℕ) (long : Bool) → Inside os [] before → AwaitsParam h own → (w : Extent) (t : Token) (a : At) → on_colon h v.start x t [] os ≡ one a
    → HoldsAt a (before ++ ((own ++ tok v (Named x long) ∷ []) ++ tok w t ∷ []))
colon_reads {own = own} v x long i o w (Fixed Colon) a e = become _ a _ e (rw (append_assoc own (tok v (Named x long) ∷ []) (fixed w Colon ∷ [])) (stays i (own_kind v x long w o)))
colon_reads v x long i o w _ a e = none a e

kind_reads : {os : List Op} {before own : List Placed} {h : Head} (v : Extent) (x : List ℕ) (long : Bool) (c : Extent) → Inside os [] before → AwaitsParam h own → (w : Extent) (t : Token) (a : At) → on_kind h v.start x t [] os ≡ one a
    → HoldsAt a (before ++ ((own ++ tok v (Named x long) ∷ fixed c Colon ∷ []) ++ tok w t ∷ []))
kind_reads {own = own} v x long c i o w (Fixed WordRecord) a e = become _ a _ e (rw (append_assoc own (tok v (Named x long) ∷ fixed c Colon ∷ []) (fixed w WordRecord ∷ [])) (stays i (own_more (has_more o of_record))))
kind_reads {own = own} v x long c i o w (Fixed WordNumber) a e = become _ a _ e (rw (append_assoc own (tok v (Named x long) ∷ fixed c Colon ∷ []) (fixed w WordNumber ∷ [])) (stays i (own_more (has_more o of_amount))))
kind_reads v x long c i o w _ a e = none a e

more_reads : {os : List Op} {before own : List Placed} {h : Head} → Inside os [] before → HasParams h own → (w : Extent) (t : Token) (a : At) → on_more h t [] os ≡ one a → HoldsAt a (before ++ (own ++ tok w t ∷ []))
more_reads i o w (Fixed Comma) a e = become _ a _ e (stays i (own_param w o))
more_reads i (has r) w Close a e = become _ a _ e (stays i (own_block (o_whole (with w r))))
more_reads i o w _ a e = none a e

block_reads : {os : List Op} {bs : List Unclosed} {before own : List Placed} {c : Purpose} → Inside os bs before → Opens bs c own → (w : Extent) (t : Token) (a : At) → on_block c t bs os ≡ one a → HoldsAt a (before ++ (own ++ tok w t ∷ []))
block_reads i o w (Fixed OpenBlock) a e = become _ a _ e (ends (opened w i o nothing))
block_reads i o w _ a e = none a e

stmt_reads : {os : List Op} {c : Purpose} {ss : Statements} {bs : List Unclosed} {before : List Placed} → Inside os (mode.unclosed c ss ∷ bs) before → (w : Extent) (t : Token) (a : At) → on_stmt w.start t (mode.unclosed c ss ∷ bs) os ≡ one a → HoldsAt a (before ++ tok w t ∷ [])
stmt_reads i w (Fixed WordLet) a e = become _ a _ e (stays i own_let)
stmt_reads i w (Named x long) a e = become _ a _ e (stays i (own_equals names_assign))
stmt_reads i w (Fixed WordRequire) a e = become _ a _ e (stays i (own_expr [] uses_require empty))
stmt_reads i w (Fixed WordIf) a e = become _ a _ e (stays i (own_expr [] uses_if empty))
stmt_reads i w (Fixed WordRepeat) a e = become _ a _ e (stays i own_count)
stmt_reads i w (Fixed CloseBlock) a e = closed_reads w a i e
stmt_reads i w _ a e = none a e

let_reads : {os : List Op} {c : Purpose} {ss : Statements} {bs : List Unclosed} {before : List Placed} (v : Extent) → Inside os (mode.unclosed c ss ∷ bs) before → (w : Extent) (t : Token) (a : At) → on_let w.start t (mode.unclosed c ss ∷ bs) os ≡ one a
    → HoldsAt a (before ++ fixed v WordLet ∷ tok w t ∷ [])
let_reads v i w (Named x long) a e = become _ a _ e (stays i (own_equals names_let))
let_reads v i w _ a e = none a e

equals_reads : {os : List Op} {c : Purpose} {ss : Statements} {bs : List Unclosed} {before own : List Placed} {u : Use} → Inside os (mode.unclosed c ss ∷ bs) before → Names u own → (w : Extent) (t : Token) (a : At) → on_equals u t (mode.unclosed c ss ∷ bs) os ≡ one a
    → HoldsAt a (before ++ (own ++ tok w t ∷ []))
equals_reads i names_let w (Fixed Becomes) a e = become _ a _ e (stays i (own_expr [] uses_let empty))
equals_reads i names_assign w (Fixed Becomes) a e = become _ a _ e (stays i (own_expr [] uses_assign empty))
equals_reads i o w _ a e = none a e

count_reads : {os : List Op} {c : Purpose} {ss : Statements} {bs : List Unclosed} {before : List Placed} (v : Extent) → Inside os (mode.unclosed c ss ∷ bs) before → (w : Extent) (t : Token) (a : At) → on_count t (mode.unclosed c ss ∷ bs) os ≡ one a
    → HoldsAt a (before ++ fixed v WordRepeat ∷ tok w t ∷ [])
count_reads v i w (Number n) a e = become _ a _ e (stays i (own_block o_turns))
count_reads v i w _ a e = none a e

semicolon_reads : {os : List Op} {c : Purpose} {ss : Statements} {bs : List Unclosed} {before own ts : List Placed} {u : Use} {e : Tree} → Inside os (mode.unclosed c ss ∷ bs) before → Uses u own → (w : Extent) (a : At) → Spells 0 ts e
    → on_semicolon u (Some e) (mode.unclosed c ss ∷ bs) os ≡ one a → HoldsAt a (before ++ (own ++ (ts ++ fixed w Semicolon ∷ [])))
semicolon_reads i uses_let w a r h = become _ a _ h (ends (put_inside i (of_let w r)))
semicolon_reads i uses_assign w a r h = become _ a _ h (ends (put_inside i (of_assign w r)))
semicolon_reads i uses_require w a r h = become _ a _ h (ends (put_inside i (of_require w r)))
semicolon_reads i uses_if w a r h = none a h

brace_reads : {os : List Op} {c : Purpose} {ss : Statements} {bs : List Unclosed} {before own ts : List Placed} {u : Use} {e : Tree} → Inside os (mode.unclosed c ss ∷ bs) before → Uses u own → (w : Extent) (a : At) → Spells 0 ts e
    → on_brace u (Some e) (mode.unclosed c ss ∷ bs) os ≡ one a → HoldsAt a (before ++ (own ++ (ts ++ fixed w OpenBlock ∷ [])))
brace_reads i uses_let w a r h = none a h
brace_reads i uses_assign w a r h = none a h
brace_reads i uses_require w a r h = none a h
brace_reads i (uses_if {w = v}) w a r h = become _ a _ h (ends (opened w i (o_first {w = v} r) nothing))

abbrev one_tree : Tree → Option Tree
one_tree e = Some e

ended_semicolon : {os : List Op} {c : Purpose} {ss : Statements} {bs : List Unclosed} {before own : List Placed} {u : Use} (ts : List Placed) (s : Partial) (o : Option Tree) → ReadTo s ts → ended s ≡ o → Inside os (mode.unclosed c ss ∷ bs) before → Uses u own → (w : Extent) (a : At)
    → on_semicolon u o (mode.unclosed c ss ∷ bs) os ≡ one a → HoldsAt a (before ++ (own ++ (ts ++ fixed w Semicolon ∷ [])))
ended_semicolon ts s None r is i k w a h = none a h
ended_semicolon ts s (Some e) r is i k w a h = semicolon_reads i k w a (ended_reads s ts e r is) h

ended_brace : {os : List Op} {c : Purpose} {ss : Statements} {bs : List Unclosed} {before own : List Placed} {u : Use} (ts : List Placed) (s : Partial) (o : Option Tree) → ReadTo s ts → ended s ≡ o → Inside os (mode.unclosed c ss ∷ bs) before → Uses u own → (w : Extent) (a : At)
    → on_brace u o (mode.unclosed c ss ∷ bs) os ≡ one a → HoldsAt a (before ++ (own ++ (ts ++ fixed w OpenBlock ∷ [])))
ended_brace ts s None r is i k w a h = none a h
ended_brace ts s (Some e) r is i k w a h = brace_reads i k w a (ended_reads s ts e r is) h

expr_token : {os : List Op} {c : Purpose} {ss : Statements} {bs : List Unclosed} {before own : List Placed} {u : Use} (ts : List Placed) (s : Partial) (w : Extent) (t : Token) (o : Option Partial) → ReadTo s ts → taken s w.start t ≡ o → Inside os (mode.unclosed c ss ∷ bs) before → Uses u own
    → (a : At) → option_map (λ z. at (in_expr u z) (mode.unclosed c ss ∷ bs) os) o ≡ one a → HoldsAt a (before ++ (own ++ (ts ++ tok w t ∷ [])))
expr_token ts s w t None r is i k a h = none a h
expr_token ts s w t (Some z) r is i k a h = become _ a _ h (stays i (own_expr (ts ++ tok w t ∷ []) k (step_reads s z ts w t r is)))

expr_reads : {os : List Op} {c : Purpose} {ss : Statements} {bs : List Unclosed} {before own : List Placed} {u : Use} (ts : List Placed) (s : Partial) → ReadTo s ts → Inside os (mode.unclosed c ss ∷ bs) before → Uses u own → (w : Extent) (t : Token) (a : At)
    → on_expr u s w.start t (mode.unclosed c ss ∷ bs) os ≡ one a → HoldsAt a (before ++ (own ++ (ts ++ tok w t ∷ [])))
expr_reads ts s r i k w (Fixed Semicolon) a h = ended_semicolon ts s (ended s) r refl i k w a h
expr_reads ts s r i k w (Fixed OpenBlock) a h = ended_brace ts s (ended s) r refl i k w a h
expr_reads ts s r i k w t a h = expr_token ts s w t (taken s w.start t) r refl i k a h

else_reads : {os : List Op} {c : Purpose} {ss : Statements} {bs : List Unclosed} {before ts ys : List Placed} {e : Tree} {b : Statements} (v : Extent) → Inside os (mode.unclosed c ss ∷ bs) before → Spells 0 ts e → SpellsBlock ys b → (w : Extent) (t : Token) (a : At)
    → on_else e b w.start t (mode.unclosed c ss ∷ bs) os ≡ one a → HoldsAt a (before ++ (fixed v WordIf ∷ ((ts ++ ys) ++ tok w t ∷ [])))
else_reads {ts = ts} {ys = ys} v i r q w (Fixed WordElse) a h = become _ a _ h (rw (append_assoc ts ys (fixed w WordElse ∷ [])) (stays i (own_block (o_second {w = v} w r q))))
else_reads {before = before} {ts = ts} {ys = ys} v i r q w t a h = rw (append_assoc before (fixed v WordIf ∷ (ts ++ ys)) (tok w t ∷ [])) at (stmt_reads (put_inside i (of_if {w = v} r q)) w t a h)

mode_reads : {os : List Op} {bs : List Unclosed} {m : Mode} {before own : List Placed} → Inside os bs before → Own bs m own → (w : Extent) (t : Token) (a : At) → on_mode m w.start t bs os ≡ one a → HoldsAt a (before ++ (own ++ tok w t ∷ []))
mode_reads i own_op w t a h = op_reads i w t a h
mode_reads i (own_op_name {w = v}) w t a h = op_name_reads v i w t a h
mode_reads i (own_open {w = v} {v = u} {x = x} {long = long}) w t a h = open_reads v u x long i w t a h
mode_reads i (own_first {w = v} {v = u} {u = z} {x = x} {long = long}) w t a h = first_reads v u z x long i w t a h
mode_reads i (own_param c o) w t a h = param_reads c i o w t a h
mode_reads i (own_colon v x long o) w t a h = colon_reads v x long i o w t a h
mode_reads i (own_kind v x long c o) w t a h = kind_reads v x long c i o w t a h
mode_reads i (own_more o) w t a h = more_reads i o w t a h
mode_reads i (own_block o) w t a h = block_reads i o w t a h
mode_reads i own_stmt w t a h = stmt_reads i w t a h
mode_reads i (own_let {w = v}) w t a h = let_reads v i w t a h
mode_reads i (own_equals o) w t a h = equals_reads i o w t a h
mode_reads i (own_expr {s = s} {own = own} ts k r) w t a h = rw (append_assoc own ts (tok w t ∷ [])) (expr_reads ts s r i k w t a h)
mode_reads i (own_count {w = v}) w t a h = count_reads v i w t a h
mode_reads i (own_else {w = v} r q) w t a h = else_reads v i r q w t a h

pub advance_reads : (z a : At) (p : List Placed) (k : Placed) → HoldsAt z p → advance z k ≡ one a → HoldsAt a (p ++ k ∷ [])
unfolding advance
advance_reads z a p k r h = rw (r.parts, append_assoc r.before r.own (k ∷ [])) (mode_reads r.holds r.owns k.span k.token a h)

pub so_far : (z a : At) (p ks : List Placed) → HoldsAt z p → reached z ks ≡ one a → HoldsAt a (p ++ ks)
unfolding reached
so_far z a p [] r h = rw append-nil (become z a p h r)
so_far z a p (k ∷ ks) r h = by_step (advance z k) refl h (λ y. so_far y a (p ++ k ∷ []) ks)
  where
    by_step : (o : Option At) → advance z k ≡ o → option_and_then (λ y. reached y ks) o ≡ one a → ((y : At) → HoldsAt y (p ++ k ∷ []) → reached y ks ≡ one a → HoldsAt a ((p ++ k ∷ []) ++ ks)) → HoldsAt a (p ++ k ∷ ks)
    by_step None is h f = none a h
    by_step (Some y) is h f = rw (append_assoc p (k ∷ []) ks) at (f y (advance_reads z y p k r is) h)

pub at_begin : HoldsAt begin []
at_begin = record { before = []; holds = bottom no_ops; own = []; owns = own_op; parts = refl }
