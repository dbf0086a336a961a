-- What has been read can go on, and what is refused can't.
use Rattle.std.proofs.Common.{◌≡◌, ◌≢◌, ℕ, Bool, false, List, [], ◌∷◌, ◌++◌, Option, Some, None, option_and_then, sym, ap, ◌∙◌, append_assoc}
use Rattle.std.proofs.lemmas.List.{append-nil}
use Rattle.contract_grammar.specs.declared.token.Mark.TheVariants.{WordOp, WordLet, WordRequire, WordIf, WordRecord, OpenBlock, CloseBlock, Colon, Semicolon, Becomes}
use Rattle.contract_grammar.specs.declared.token.Token.{Token}
use Rattle.contract_grammar.specs.declared.token.Token.TheVariants.{Number, Named, Open, Close}
use Rattle.contract_grammar.specs.declared.token.Extent.{Extent}
use Rattle.contract_grammar.specs.declared.token.Placed.{Placed}
use Rattle.contract_grammar.specs.declared.tree.Head.{Head}
use Rattle.contract_grammar.specs.Tree.{number, Statement, define, assign, demand, choose, again, Statements, nil, Op}
use Rattle.contract_grammar.specs.Grammar.{tok, fixed, Spells, of_number, of_tighter, SpellsStatements, nothing, SpellsStatement, of_let, of_assign, of_require, of_if, of_else, of_repeat, SpellsBlock, block, of_record, head, without, with, SpellsOp, of_op, SpellsOps, more_ops, SpellsContract, Sentence, CanGoOn}
use Rattle.contract_grammar.specs.Modes.{Purpose, whole, first_block, second_block, turns, Unclosed, Use, for_let, for_assign, for_require, for_if, Mode, At, at, with_stmt, with_param, advance, reached, begin, some_ops, finished, at_end, at_op, at_op_name, at_open, at_first, at_param, at_colon, at_kind, at_more, at_block, at_stmt, at_let, at_equals, in_expr, at_count, at_else}
use Rattle.contract_grammar.specs.Modes as mode
use Rattle.contract_grammar.proofs.Spelled.{nowhere, ExpressionGoesOn, expression_goes_on}
use Rattle.contract_grammar.proofs.Runs.{one, none, both, contract_read}
use Rattle.contract_grammar.proofs.SoFar.{Opens, o_whole, o_first, o_second, o_turns, Inside, opened, HasParams, has, AwaitsParam, awaits_more, Names, names_let, names_assign, Uses, uses_let, uses_assign, uses_require, uses_if, Own, own_op, own_op_name, own_open, own_first, own_param, own_colon, own_kind, own_more, own_block, own_stmt, own_let, own_equals, own_expr, own_count, own_else, put_inside, at_bottom, has_more, so_far, at_begin}

further : (p extra : List Placed) → CanGoOn (p ++ extra) → CanGoOn p
further p extra g = (extra ++ g.0, (g.1.0, rw (append_assoc p extra g.0) at g.1.1))

-- tokens somewhere
abbrev sign : Token → Placed
sign t = tok nowhere t

abbrev mark_open : Placed
mark_open = fixed nowhere OpenBlock

abbrev mark_close : Placed
mark_close = fixed nowhere CloseBlock

abbrev some_name : Placed
some_name = sign (Named (97 ∷ []) false)

no_more : List Placed
no_more = []

empty_block : SpellsBlock (mark_open ∷ mark_close ∷ []) nil
empty_block = block nowhere nothing

some_op : SpellsOp (fixed nowhere WordOp ∷ some_name ∷ sign Open ∷ sign Close ∷ mark_open ∷ mark_close ∷ []) (record { head = head 0 (97 ∷ []) []; body = nil })
some_op = of_op without empty_block

not_empty : (os : List Op) (o : Op) → os ++ o ∷ [] ≢ []
not_empty [] o h = cc
not_empty (x ∷ os) o h = cc

ops_go_on : (os : List Op) (p own extra : List Placed) (o : Op) → SpellsOps p os → SpellsOp (own ++ extra) o → CanGoOn (p ++ own)
ops_go_on os p own extra o r q = (extra, (os ++ o ∷ [], (rw append_assoc (more_ops r q), not_empty os o)))

bottom_goes_on : (os : List Op) (p : List Placed) → SpellsOps p os → CanGoOn p
bottom_goes_on os p r = (_, (os ++ _ ∷ [], (more_ops r some_op, not_empty os _)))

-- an open block closed, which ends an operation or a statement of the block around it
data Closing (os : List Op) (bs : List Unclosed) (p : List Placed) : Type 0 where
  ends : CanGoOn p → Closing os bs p
  goes_up : (s : Statement) (extra : List Placed) → Inside os (with_stmt s bs) (p ++ extra) → Closing os bs p

closes_up : {os : List Op} {bs : List Unclosed} {c : Purpose} {p own xs : List Placed} {ss : Statements} (z : Extent) → Inside os bs p → Opens bs c own → SpellsStatements xs ss → Closing os bs (p ++ (own ++ fixed z OpenBlock ∷ xs))
closes_up {os = os} {p = p} {xs = xs} {ss = ss} z i (o_whole {hs = hs} {h = h} k) r =
    ends (further _ (mark_close ∷ []) (rw (append_assoc, append_assoc) (bottom_goes_on (os ++ record { head = h; body = ss } ∷ []) _ (more_ops (at_bottom i) (of_op k (block {w = z} nowhere r))))))
closes_up {ss = ss} z i (o_first {w = w} {e = t} k) r = goes_up (choose t ss nil) (mark_close ∷ []) (rw (append_assoc, append_assoc) (put_inside i (of_if {w = w} k (block nowhere r))))
closes_up {xs = xs} {ss = ss} z i (o_second {w = w} {ts = ts} {ys = ys} {e = t} {b = b} v k q) r = goes_up (choose t b ss) (mark_close ∷ []) (rw (append_assoc, append_assoc, append_assoc, append_assoc) (put_inside i (of_else {w = w} v k q (block nowhere r))))
closes_up {ss = ss} z i (o_turns {n = n}) r = goes_up (again n ss) (mark_close ∷ []) (rw (append_assoc, append_assoc) (put_inside i (of_repeat (block nowhere r))))

closing : {os : List Op} {c : Purpose} {ss : Statements} {bs : List Unclosed} {p : List Placed} → Inside os (mode.unclosed c ss ∷ bs) p → Closing os bs p
closing (opened z i o r) = closes_up z i o r

up : (os : List Op) (bs : List Unclosed) (p : List Placed) → Closing os bs p → CanGoOn p
up os bs p (ends g) = g
up os [] p (goes_up s extra i) = further p extra (bottom_goes_on os (p ++ extra) (at_bottom i))
up os (mode.unclosed c ss ∷ bs) p (goes_up s extra i) = further p extra (up os bs (p ++ extra) (closing i))

inside_goes_on : (os : List Op) (bs : List Unclosed) (p : List Placed) → Inside os bs p → CanGoOn p
inside_goes_on os [] p i = bottom_goes_on os p (at_bottom i)
inside_goes_on os (mode.unclosed c ss ∷ bs) p i = up os bs p (closing i)

-- a statement that has begun, and what ends it
with_more : {os : List Op} {c : Purpose} {ss : Statements} {bs : List Unclosed} {p : List Placed} {s : Statement} (own extra : List Placed) → Inside os (mode.unclosed c ss ∷ bs) p → SpellsStatement (own ++ extra) s → CanGoOn (p ++ own)
with_more {os = os} {p = p} {s = s} own extra i r = further (p ++ own) extra (rw append_assoc (inside_goes_on os _ (p ++ (own ++ extra)) (put_inside i r)))

zero_spelled : Spells 0 (sign (Number 0) ∷ []) (number 0 0)
zero_spelled = of_tighter (of_tighter (of_tighter (of_tighter (of_tighter (of_tighter of_number)))))

opens_go_on : {os : List Op} {bs : List Unclosed} {c : Purpose} {p own : List Placed} → Inside os bs p → Opens bs c own → CanGoOn (p ++ own)
opens_go_on {os = os} {bs = bs} {p = p} {own = own} i o = further (p ++ own) (mark_open ∷ []) (rw append_assoc (inside_goes_on os _ _ (opened nowhere i o nothing)))

params_go_on : {os : List Op} {h : Head} {p own : List Placed} → Inside os [] p → HasParams h own → CanGoOn (p ++ own)
params_go_on {p = p} i (has {w = w} {v = v} {u = u} {x = x} {long = long} {xs = xs} r) = further (p ++ _) (sign Close ∷ []) (rw append_assoc (opens_go_on i (o_whole (with {w = w} {v = v} {u = u} {x = x} {long = long} nowhere r))))

await_goes_on : {os : List Op} {h : Head} {p own : List Placed} → Inside os [] p → AwaitsParam h own → CanGoOn (p ++ own)
await_goes_on {p = p} {own = own} i o = further (p ++ own) (some_name ∷ fixed nowhere Colon ∷ fixed nowhere WordRecord ∷ []) (rw append_assoc (params_go_on i (has_more o of_record)))

colon_goes_on : {os : List Op} {h : Head} {p own : List Placed} (v : Extent) (x : List ℕ) (long : Bool) → Inside os [] p → AwaitsParam h own → CanGoOn (p ++ (own ++ tok v (Named x long) ∷ []))
colon_goes_on {p = p} {own = own} v x long i o = further (p ++ (own ++ tok v (Named x long) ∷ [])) (fixed nowhere Colon ∷ fixed nowhere WordRecord ∷ []) (rw (append_assoc, append_assoc) (params_go_on i (has_more o (of_record {w = v}))))

kind_goes_on : {os : List Op} {h : Head} {p own : List Placed} (v : Extent) (x : List ℕ) (long : Bool) (c : Extent) → Inside os [] p → AwaitsParam h own → CanGoOn (p ++ (own ++ tok v (Named x long) ∷ fixed c Colon ∷ []))
kind_goes_on {p = p} {own = own} v x long c i o = further (p ++ (own ++ tok v (Named x long) ∷ fixed c Colon ∷ [])) (fixed nowhere WordRecord ∷ []) (rw (append_assoc, append_assoc) (params_go_on i (has_more o (of_record {w = v} {v = c}))))

names_go_on : {os : List Op} {c : Purpose} {ss : Statements} {bs : List Unclosed} {p own : List Placed} {u : Use} → Inside os (mode.unclosed c ss ∷ bs) p → Names u own → CanGoOn (p ++ own)
names_go_on i (names_let {w = w} {v = v}) = with_more _ (fixed nowhere Becomes ∷ sign (Number 0) ∷ fixed nowhere Semicolon ∷ []) i (of_let {w = w} {v = v} nowhere zero_spelled)
names_go_on i (names_assign {v = v}) = with_more _ (fixed nowhere Becomes ∷ sign (Number 0) ∷ fixed nowhere Semicolon ∷ []) i (of_assign {v = v} nowhere zero_spelled)

expr_goes_on : {os : List Op} {c : Purpose} {ss : Statements} {bs : List Unclosed} {p own : List Placed} {u : Use} (ts : List Placed) → Inside os (mode.unclosed c ss ∷ bs) p → Uses u own → ExpressionGoesOn ts → CanGoOn (p ++ (own ++ ts))
expr_goes_on ts i (uses_let {w = w} {v = v} {u = u} {x = x} {long = long}) g = with_more {s = define v.start x g.1} (fixed w WordLet ∷ tok v (Named x long) ∷ fixed u Becomes ∷ ts) (g.0 ++ fixed nowhere Semicolon ∷ []) i
    (rw (← append_assoc ts g.0 (fixed nowhere Semicolon ∷ [])) (of_let {w = w} {v = v} {u = u} nowhere g.2))
expr_goes_on ts i (uses_assign {v = v} {u = u} {x = x} {long = long}) g = with_more {s = assign v.start x g.1} (tok v (Named x long) ∷ fixed u Becomes ∷ ts) (g.0 ++ fixed nowhere Semicolon ∷ []) i
    (rw (← append_assoc ts g.0 (fixed nowhere Semicolon ∷ [])) (of_assign {v = v} {u = u} nowhere g.2))
expr_goes_on ts i (uses_require {w = w}) g = with_more {s = demand g.1} (fixed w WordRequire ∷ ts) (g.0 ++ fixed nowhere Semicolon ∷ []) i
    (rw (← append_assoc ts g.0 (fixed nowhere Semicolon ∷ [])) (of_require {w = w} nowhere g.2))
expr_goes_on ts i (uses_if {w = w}) g = with_more {s = choose g.1 nil nil} (fixed w WordIf ∷ ts) (g.0 ++ mark_open ∷ mark_close ∷ []) i
    (rw (← append_assoc ts g.0 (mark_open ∷ mark_close ∷ [])) (of_if {w = w} g.2 empty_block))

own_goes_on : {os : List Op} {bs : List Unclosed} {m : Mode} {p own : List Placed} → Inside os bs p → Own bs m own → CanGoOn (p ++ own)
own_goes_on {os = os} {p = p} i own_op = rw append-nil (bottom_goes_on os p (at_bottom i))
own_goes_on {os = os} {p = p} i (own_op_name {w = w}) = ops_go_on os p _ (some_name ∷ sign Open ∷ sign Close ∷ mark_open ∷ mark_close ∷ []) _ (at_bottom i) (of_op (without {w = w}) empty_block)
own_goes_on {os = os} {p = p} i (own_open {w = w} {v = v}) = ops_go_on os p _ (sign Open ∷ sign Close ∷ mark_open ∷ mark_close ∷ []) _ (at_bottom i) (of_op (without {w = w} {v = v}) empty_block)
own_goes_on {os = os} {p = p} i (own_first {w = w} {v = v} {u = u}) = ops_go_on os p _ (sign Close ∷ mark_open ∷ mark_close ∷ []) _ (at_bottom i) (of_op (without {w = w} {v = v} {u = u}) empty_block)
own_goes_on i (own_param c o) = await_goes_on i (awaits_more c o)
own_goes_on i (own_colon v x long o) = colon_goes_on v x long i o
own_goes_on i (own_kind v x long c o) = kind_goes_on v x long c i o
own_goes_on i (own_more o) = params_go_on i o
own_goes_on i (own_block o) = opens_go_on i o
own_goes_on {os = os} {bs = bs} {p = p} i own_stmt = rw append-nil (inside_goes_on os _ p i)
own_goes_on i (own_let {w = w}) = with_more _ (some_name ∷ fixed nowhere Becomes ∷ sign (Number 0) ∷ fixed nowhere Semicolon ∷ []) i (of_let {w = w} nowhere zero_spelled)
own_goes_on i (own_equals o) = names_go_on i o
own_goes_on i (own_expr {s = s} ts k r) = expr_goes_on ts i k (expression_goes_on s ts r)
own_goes_on i (own_count {w = w}) = with_more _ (sign (Number 1) ∷ mark_open ∷ mark_close ∷ []) i (of_repeat {w = w} empty_block)
own_goes_on {os = os} {p = p} i (own_else {w = w} r q) = inside_goes_on os _ _ (put_inside i (of_if {w = w} r q))

-- ---- the laws that the reader's clauses stand on

-- what has been read can go on
pub can_go_on : (p : List Placed) (z : At) → reached begin p ≡ one z → CanGoOn p
can_go_on p z h = let r = so_far begin z [] p at_begin h in rw r.parts (own_goes_on r.holds r.owns)

-- where a token can't stand, nothing goes on
pub cannot_go_on : (p : List Placed) (k : Placed) (z : At) → reached begin p ≡ one z → advance z k ≡ None → CanGoOn (p ++ k ∷ []) → ⊥
unfolding reached
cannot_go_on p k z h is g =
    let read = contract_read g.1.1 in
    let stuck : reached begin ((p ++ k ∷ []) ++ g.0) ≡ None = rw (append_assoc p (k ∷ []) g.0) (both begin z p (k ∷ g.0) h ∙ ap (option_and_then (λ y. reached y g.0)) is) in
    none _ (sym stuck ∙ read.0)

abbrev some_list : List Op → Option (List Op)
some_list os = Some os

same_list : (os os' : List Op) → some_list os ≡ some_list os' → os ≡ os'
same_list os os' h = cc

no_list : {A : Type 0} (os : List Op) → None ≡ some_list os → A
no_list os h = absurd cc

same_at : (a a' : At) → one a ≡ one a' → a ≡ a'
same_at a a' h = cc

ops_at_end : {os : List Op} {bs : List Unclosed} {m : Mode} {p own : List Placed} (all : List Op) → Inside os bs p → Own bs m own → finished m os ≡ some_list all → SpellsContract (p ++ own) all
ops_at_end {os = []} all i own_op h = no_list all h
ops_at_end {os = o ∷ os} {p = p} all i own_op h = rw (append-nil, ← same_list (o ∷ os) all h) (at_bottom i, (λ e. cc))
ops_at_end all i own_op_name h = no_list all h
ops_at_end all i own_open h = no_list all h
ops_at_end all i own_first h = no_list all h
ops_at_end all i (own_param c o) h = no_list all h
ops_at_end all i (own_colon v x long o) h = no_list all h
ops_at_end all i (own_kind v x long c o) h = no_list all h
ops_at_end all i (own_more o) h = no_list all h
ops_at_end all i (own_block o) h = no_list all h
ops_at_end all i own_stmt h = no_list all h
ops_at_end all i own_let h = no_list all h
ops_at_end all i (own_equals o) h = no_list all h
ops_at_end all i (own_expr ts k r) h = no_list all h
ops_at_end all i own_count h = no_list all h
ops_at_end all i (own_else r q) h = no_list all h

-- what is read at the end is spelled by the tokens
pub is_contract : (p : List Placed) (z : At) (os : List Op) → reached begin p ≡ one z → at_end z ≡ Some os → SpellsContract p os
unfolding at_end
is_contract p z os h is = let r = so_far begin z [] p at_begin h in rw r.parts (ops_at_end os r.holds r.owns is)

-- where the end can't stand, the tokens are no sentence
pub no_sentence : (p : List Placed) (z : At) → reached begin p ≡ one z → at_end z ≡ None → Sentence p → ⊥
no_sentence p z h is g =
    let read = contract_read g.1 in
    let same = same_at z _ (sym h ∙ read.0) in
    no_list _ (sym is ∙ ap at_end same ∙ read.1)

-- a sentence has one tree
pub one_tree : (p : List Placed) (os os' : List Op) → SpellsContract p os → SpellsContract p os' → os ≡ os'
one_tree p os os' r r' =
    let a = contract_read r in
    let b = contract_read r' in
    let same = same_at _ _ (sym a.0 ∙ b.0) in
    same_list os os' (sym a.1 ∙ ap at_end same ∙ b.1)
