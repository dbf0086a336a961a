-- How a reader goes through operations and statements: what it waits for, and what the next token makes of it.
use Rattle.std.specs.Prelude.{ℕ, List, [], ◌∷◌, ◌++◌, Option, Some, None, option_map, option_and_then}
use Rattle.contract_grammar.specs.declared.token.Mark.TheVariants.{WordOp, WordLet, WordRequire, WordIf, WordElse, WordRepeat, WordRecord, WordNumber, OpenBlock, CloseBlock, Colon, Comma, Semicolon, Becomes}
use Rattle.contract_grammar.specs.declared.token.Token.{Token}
use Rattle.contract_grammar.specs.declared.token.Token.TheVariants.{Number, Named, Open, Close, Fixed}
use Rattle.contract_grammar.specs.declared.token.Placed.{Placed}
use Rattle.contract_grammar.specs.declared.tree.ParamKind.TheVariants as kind
use Rattle.contract_grammar.specs.declared.tree.Param.{Param}
use Rattle.contract_grammar.specs.declared.tree.Head.{Head}
use Rattle.contract_grammar.specs.Tree.{Tree, Statement, define, assign, demand, choose, again, Statements, nil, then_one, Op}
use Rattle.contract_grammar.specs.Grammar.{parameter, head}
use Rattle.contract_grammar.specs.Expressions.{Partial, want, taken, ended}

-- what an open block is for: an operation, the first or the second block of an `if`, a `repeat`
pub data Purpose : Type 0 where
  whole : Head → Purpose
  first_block : Tree → Purpose
  second_block : Tree → Statements → Purpose
  turns : ℕ → Purpose

-- an open block, with its statements so far
pub data Unclosed : Type 0 where
  unclosed : Purpose → Statements → Unclosed

-- what an expression is for
pub data Use : Type 0 where
  for_let : ℕ → List ℕ → Use
  for_assign : ℕ → List ℕ → Use
  for_require : Use
  for_if : Use

-- what comes next
pub data Mode : Type 0 where
  at_op : Mode
  at_op_name : Mode
  at_open : ℕ → List ℕ → Mode
  at_first : Head → Mode
  at_param : Head → Mode
  at_colon : Head → ℕ → List ℕ → Mode
  at_kind : Head → ℕ → List ℕ → Mode
  at_more : Head → Mode
  at_block : Purpose → Mode
  at_stmt : Mode
  at_let : Mode
  at_equals : Use → Mode
  in_expr : Use → Partial → Mode
  at_count : Mode
  at_else : Tree → Statements → Mode

-- what comes next, the open blocks from the innermost on, and the operations so far
pub record At : Type 0 where
  pub mode : Mode
  pub blocks : List Unclosed
  pub done : List Op

-- a state of these parts
abbrev pub at : Mode → List Unclosed → List Op → At
at m bs os = record { mode = m; blocks = bs; done = os }

-- the state that comes
abbrev pub some_at : Mode → List Unclosed → List Op → Option At
some_at m bs os = Some (at m bs os)

-- a statement goes to the end of the innermost block
abbrev pub with_stmt : Statement → List Unclosed → List Unclosed
with_stmt s [] = []
with_stmt s (unclosed w ss ∷ bs) = unclosed w (then_one ss s) ∷ bs

-- a head with a further parameter
abbrev pub with_param : Head → Param → Head
with_param h q = head h.at h.name (h.params ++ q ∷ [])

-- the innermost block ends, and with it its statement or operation
abbrev pub closed : List Unclosed → List Op → Option At
closed [] os = None
closed (unclosed (whole h) ss ∷ bs) os = some_at at_op bs (os ++ record { head = h; body = ss } ∷ [])
closed (unclosed (first_block e) ss ∷ bs) os = some_at (at_else e ss) bs os
closed (unclosed (second_block e b) ss ∷ bs) os = some_at at_stmt (with_stmt (choose e b ss) bs) os
closed (unclosed (turns n) ss ∷ bs) os = some_at at_stmt (with_stmt (again n ss) bs) os

-- the word that begins an operation
abbrev pub on_op : Token → List Unclosed → List Op → Option At
on_op (Fixed WordOp) bs os = some_at at_op_name bs os
on_op _ bs os = None

-- an operation's name
abbrev pub on_op_name : ℕ → Token → List Unclosed → List Op → Option At
on_op_name p (Named x long) bs os = some_at (at_open p x) bs os
on_op_name p _ bs os = None

-- the parenthesis before the parameters
abbrev pub on_open : ℕ → List ℕ → Token → List Unclosed → List Op → Option At
on_open a x Open bs os = some_at (at_first (head a x [])) bs os
on_open a x _ bs os = None

-- the first parameter's name, or the parenthesis after none
abbrev pub on_first : Head → ℕ → Token → List Unclosed → List Op → Option At
on_first h p (Named x long) bs os = some_at (at_colon h p x) bs os
on_first h p Close bs os = some_at (at_block (whole h)) bs os
on_first h p _ bs os = None

-- a further parameter's name
abbrev pub on_param : Head → ℕ → Token → List Unclosed → List Op → Option At
on_param h p (Named x long) bs os = some_at (at_colon h p x) bs os
on_param h p _ bs os = None

-- the colon after a parameter's name
abbrev pub on_colon : Head → ℕ → List ℕ → Token → List Unclosed → List Op → Option At
on_colon h a x (Fixed Colon) bs os = some_at (at_kind h a x) bs os
on_colon h a x _ bs os = None

-- a parameter's kind
abbrev pub on_kind : Head → ℕ → List ℕ → Token → List Unclosed → List Op → Option At
on_kind h a x (Fixed WordRecord) bs os = some_at (at_more (with_param h (parameter a x kind.Record))) bs os
on_kind h a x (Fixed WordNumber) bs os = some_at (at_more (with_param h (parameter a x kind.Number))) bs os
on_kind h a x _ bs os = None

-- a comma, or the parenthesis after the parameters
abbrev pub on_more : Head → Token → List Unclosed → List Op → Option At
on_more h (Fixed Comma) bs os = some_at (at_param h) bs os
on_more h Close bs os = some_at (at_block (whole h)) bs os
on_more h _ bs os = None

-- the brace that opens a block
abbrev pub on_block : Purpose → Token → List Unclosed → List Op → Option At
on_block w (Fixed OpenBlock) bs os = some_at at_stmt (unclosed w nil ∷ bs) os
on_block w _ bs os = None

-- what begins a statement, or ends a block
abbrev pub on_stmt : ℕ → Token → List Unclosed → List Op → Option At
on_stmt p (Fixed WordLet) bs os = some_at at_let bs os
on_stmt p (Named x long) bs os = some_at (at_equals (for_assign p x)) bs os
on_stmt p (Fixed WordRequire) bs os = some_at (in_expr for_require (want [])) bs os
on_stmt p (Fixed WordIf) bs os = some_at (in_expr for_if (want [])) bs os
on_stmt p (Fixed WordRepeat) bs os = some_at at_count bs os
on_stmt p (Fixed CloseBlock) bs os = closed bs os
on_stmt p _ bs os = None

-- the name of a local
abbrev pub on_let : ℕ → Token → List Unclosed → List Op → Option At
on_let p (Named x long) bs os = some_at (at_equals (for_let p x)) bs os
on_let p _ bs os = None

-- the `=` after a name
abbrev pub on_equals : Use → Token → List Unclosed → List Op → Option At
on_equals u (Fixed Becomes) bs os = some_at (in_expr u (want [])) bs os
on_equals u _ bs os = None

-- the count of a `repeat`
abbrev pub on_count : Token → List Unclosed → List Op → Option At
on_count (Number n) bs os = some_at (at_block (turns n)) bs os
on_count _ bs os = None

-- the end of a statement
abbrev pub on_semicolon : Use → Option Tree → List Unclosed → List Op → Option At
on_semicolon u None bs os = None
on_semicolon (for_let a x) (Some e) bs os = some_at at_stmt (with_stmt (define a x e) bs) os
on_semicolon (for_assign a x) (Some e) bs os = some_at at_stmt (with_stmt (assign a x e) bs) os
on_semicolon for_require (Some e) bs os = some_at at_stmt (with_stmt (demand e) bs) os
on_semicolon for_if (Some e) bs os = None

-- the brace after the expression of an `if`
abbrev pub on_brace : Use → Option Tree → List Unclosed → List Op → Option At
on_brace u None bs os = None
on_brace for_if (Some e) bs os = some_at at_stmt (unclosed (first_block e) nil ∷ bs) os
on_brace u (Some e) bs os = None

-- a token where an expression is
abbrev pub on_expr : Use → Partial → ℕ → Token → List Unclosed → List Op → Option At
on_expr u s p (Fixed Semicolon) bs os = on_semicolon u (ended s) bs os
on_expr u s p (Fixed OpenBlock) bs os = on_brace u (ended s) bs os
on_expr u s p t bs os = option_map (λ z. at (in_expr u z) bs os) (taken s p t)

-- `else`, or what comes after an `if` with no second block
abbrev pub on_else : Tree → Statements → ℕ → Token → List Unclosed → List Op → Option At
on_else e b p (Fixed WordElse) bs os = some_at (at_block (second_block e b)) bs os
on_else e b p t bs os = on_stmt p t (with_stmt (choose e b nil) bs) os

-- a token in each mode
abbrev pub on_mode : Mode → ℕ → Token → List Unclosed → List Op → Option At
on_mode at_op p t bs os = on_op t bs os
on_mode at_op_name p t bs os = on_op_name p t bs os
on_mode (at_open a x) p t bs os = on_open a x t bs os
on_mode (at_first h) p t bs os = on_first h p t bs os
on_mode (at_param h) p t bs os = on_param h p t bs os
on_mode (at_colon h a x) p t bs os = on_colon h a x t bs os
on_mode (at_kind h a x) p t bs os = on_kind h a x t bs os
on_mode (at_more h) p t bs os = on_more h t bs os
on_mode (at_block w) p t bs os = on_block w t bs os
on_mode at_stmt p t bs os = on_stmt p t bs os
on_mode at_let p t bs os = on_let p t bs os
on_mode (at_equals u) p t bs os = on_equals u t bs os
on_mode (in_expr u s) p t bs os = on_expr u s p t bs os
on_mode at_count p t bs os = on_count t bs os
on_mode (at_else e b) p t bs os = on_else e b p t bs os

-- the next token, or none where it can't be there
unfoldable pub advance : At → Placed → Option At
advance z k = on_mode z.mode k.span.start k.token z.blocks z.done

-- where some tokens lead
unfoldable pub reached : At → List Placed → Option At
reached z [] = Some z
reached z (k ∷ ks) = option_and_then (λ y. reached y ks) (advance z k)

-- before the first token
abbrev pub begin : At
begin = at at_op [] []

-- the operations at the end, if a contract can end here
abbrev pub some_ops : List Op → Option (List Op)
some_ops [] = None
some_ops (o ∷ os) = Some (o ∷ os)

-- a contract can end after an operation
abbrev pub finished : Mode → List Op → Option (List Op)
finished at_op os = some_ops os
finished _ os = None

-- the operations of a contract that ends here
unfoldable pub at_end : At → Option (List Op)
at_end z = finished z.mode z.done
