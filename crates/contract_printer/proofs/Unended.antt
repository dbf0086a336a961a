-- A reader that comes to operations with no long chain never was at the end of one.
use Rattle.std.proofs.Common.{◌≡◌, ℕ, Bool, true, false, nat_le, List, [], ◌∷◌, ◌++◌, Option, Some, None, option_map, option_and_then, refl, sym, subst, if◌then◌else◌}
use Rattle.contract_grammar.specs.declared.token.Mark.TheVariants.{WordOp, WordLet, WordRequire, WordIf, WordElse, WordRepeat, WordRecord, WordNumber, OpenBlock, CloseBlock, Colon, Comma, Semicolon, Becomes}
use Rattle.contract_grammar.specs.declared.token.Operator.{Operator}
use Rattle.contract_grammar.specs.declared.token.Token.{Token}
use Rattle.contract_grammar.specs.declared.token.Token.TheVariants.{Number, Named, Infix, Not, Open, Close, Fixed}
use Rattle.contract_grammar.specs.declared.token.Placed.{Placed}
use Rattle.contract_grammar.specs.Tree.{Tree, Statement, choose, again, Statements, nil, Op}
use Rattle.contract_grammar.specs.Grammar.{left_level, SpellsOps}
use Rattle.contract_grammar.specs.Expressions.{Part, left, negate, Pending, group, part, Partial, want, have, level_of, filled, folded, fits, pushed, on_infix, on_close, taken, ended}
use Rattle.contract_grammar.specs.Expressions as expressions
use Rattle.contract_grammar.specs.Modes.{Purpose, whole, first_block, second_block, turns, Unclosed, Use, for_let, for_assign, for_require, for_if, Mode, at_op, at_op_name, at_open, at_first, at_param, at_colon, at_kind, at_more, at_block, at_stmt, at_let, at_equals, in_expr, at_count, at_else, At, at, with_stmt, closed, on_stmt, on_semicolon, on_brace, on_expr, on_mode, advance, reached, begin}
use Rattle.contract_grammar.specs.Modes as mode
use Rattle.contract_grammar.specs.Limits.{IsChainEnd}
use Rattle.contract_grammar.specs.Reading.{ends_chain}
use Rattle.contract_grammar.proofs.Runs.{one, none, ops_read}
use Rattle.contract_grammar.proofs.ChainEnds.{between, finds_chain}
use Rattle.contract_printer.proofs.Chained.{IsShortChain, Chained, IsChained, AreChained, AllChained, all_less, chained_begun}

-- ---- expressions

abbrev PartChained : Part → Type 0
PartChained (left op a) = IsShortChain op a × Chained a
PartChained (negate p) = Unit {0}

abbrev PendingChained : List Pending → Type 0
PendingChained [] = Unit {0}
PendingChained (group p ∷ st) = PendingChained st
PendingChained (part d ∷ st) = PartChained d × PendingChained st

abbrev PartialChained : Partial → Type 0
PartialChained (want st) = PendingChained st
PartialChained (have e st) = Chained e × PendingChained st

no_state : {A : Type 0} (s : Partial) → None ≡ Some s → A
no_state s h = absurd cc

same_state : (s s' : Partial) → Some s ≡ Some s' → PartialChained s' → PartialChained s
same_state s s' h c = let is : s ≡ s' = cc in subst (λ v. PartialChained v) (sym is) c

filled_back : (d : Part) (e : Tree) → Chained (filled d e) → PartChained d × Chained e
filled_back (left op a) e h = ((h.0, h.1), h.2)
filled_back (negate p) e h = (tt, h)

fold_back : (l : ℕ) (e : Tree) (st : List Pending) → PartialChained (folded l e st) → Chained e × PendingChained st
fold_back l e [] h = h
fold_back l e (group p ∷ st) h = h
fold_back l e (part d ∷ st) h = by (nat_le l (level_of d)) (fold_back l (filled d e) st) h
  where
    by : (b : Bool) → (PartialChained (folded l (filled d e) st) → Chained (filled d e) × PendingChained st) → PartialChained (if b then folded l (filled d e) st else have e (part d ∷ st)) → Chained e × PendingChained (part d ∷ st)
    by true onward h = let r = onward h in let p = filled_back d e r.0 in (p.1, (p.0, r.1))
    by false onward h = h

push_back : (d : Part) (st : List Pending) (b : Bool) (s : Partial) → (if b then Some (want (part d ∷ st)) else None) ≡ Some s → PartialChained s → PartChained d × PendingChained st
push_back d st true s h c = same_state (want (part d ∷ st)) s h c
push_back d st false s h c = no_state s h

infix_back : (op : Operator) (z s : Partial) → on_infix op z ≡ Some s → PartialChained s → PartialChained z
infix_back op (want st) s h c = no_state s h
infix_back op (have e st) s h c = let r = push_back (left op e) st (fits (level_of (left op e)) st) s h c in (r.0.1, r.1)

close_back : (z s : Partial) → on_close z ≡ Some s → PartialChained s → PartialChained z
close_back (want st) s h c = no_state s h
close_back (have e []) s h c = no_state s h
close_back (have e (group p ∷ st)) s h c = let r = same_state _ s h c in (chained_begun p e r.0, r.1)
close_back (have e (part d ∷ st)) s h c = no_state s h

step_back : (z : Partial) (p : ℕ) (t : Token) (s : Partial) → taken z p t ≡ Some s → PartialChained s → PartialChained z
unfolding taken
step_back (want st) p (Number n) s h c = (same_state _ s h c).1
step_back (want st) p (Named x long) s h c = (same_state _ s h c).1
step_back (want st) p Open s h c = same_state (want (group p ∷ st)) s h c
step_back (want st) p Not s h c = (push_back (negate p) st (fits 2 st) s h c).1
step_back (want st) p _ s h c = no_state s h
step_back (have e st) p (Infix op) s h c = fold_back (left_level op) e st (infix_back op (folded (left_level op) e st) s h c)
step_back (have e st) p Close s h c = fold_back 0 e st (close_back (folded 0 e st) s h c)
step_back (have e st) p _ s h c = no_state s h

no_tree : {A : Type 0} (e : Tree) → None ≡ Some e → A
no_tree e h = absurd cc

same_tree : (e e' : Tree) → Some e ≡ Some e' → Chained e' → Chained e
same_tree e e' h c = let is : e ≡ e' = cc in subst (λ v. Chained v) (sym is) c

end_back : (z : Partial) (e : Tree) → expressions.tree_at_end z ≡ Some e → Chained e → PartialChained z
end_back (want st) e h c = no_tree e h
end_back (have a []) e h c = (same_tree a e h c, tt)
end_back (have a (f ∷ st)) e h c = no_tree e h

ended_back : (z : Partial) (e : Tree) → ended z ≡ Some e → Chained e → PartialChained z
unfolding ended
ended_back (want st) e h c = no_tree e h
ended_back (have a st) e h c = fold_back 0 a st (end_back (folded 0 a st) e h c)

-- ---- statements and operations

abbrev PurposeChained : Purpose → Type 0
PurposeChained (whole h) = Unit {0}
PurposeChained (first_block e) = Chained e
PurposeChained (second_block e b) = Chained e × AreChained b
PurposeChained (turns n) = Unit {0}

-- some block is open
abbrev Inside : List Unclosed → Type 0
Inside [] = ⊥
Inside (b ∷ bs) = Unit {0}

-- a block of statements stands in a block
abbrev Stands : Purpose → List Unclosed → Type 0
Stands (whole h) bs = Unit {0}
Stands _ bs = Inside bs

abbrev UnclosedChained : List Unclosed → Type 0
UnclosedChained [] = Unit {0}
UnclosedChained (mode.unclosed w ss ∷ bs) = PurposeChained w × Stands w bs × AreChained ss × UnclosedChained bs

abbrev ModeChained : Mode → List Unclosed → Type 0
ModeChained (at_block w) bs = PurposeChained w × Stands w bs
ModeChained at_stmt bs = Inside bs
ModeChained at_let bs = Inside bs
ModeChained (at_equals u) bs = Inside bs
ModeChained (in_expr u s) bs = Inside bs × PartialChained s
ModeChained at_count bs = Inside bs
ModeChained (at_else e b) bs = Inside bs × Chained e × AreChained b
ModeChained _ bs = Unit {0}

abbrev Sound : Mode → List Unclosed → List Op → Type 0
Sound m bs os = ModeChained m bs × UnclosedChained bs × AllChained os

abbrev SoundAt : At → Type 0
SoundAt z = Sound z.mode z.blocks z.done

same_at : (m : Mode) (bs : List Unclosed) (os : List Op) (a : At) → one (at m bs os) ≡ one a → SoundAt a → Sound m bs os
same_at m bs os a h c = let is : at m bs os ≡ a = cc in subst (λ v. SoundAt v) (sym is) c

put_back : (s : Statement) (bs : List Unclosed) → Inside (with_stmt s bs) → UnclosedChained (with_stmt s bs) → IsChained s × Inside bs × UnclosedChained bs
put_back s [] i c = absurd i
put_back s (mode.unclosed w ss ∷ bs) i c = (c.2.1, tt, (c.0, c.1, c.2.0, c.3))

closed_back : (bs : List Unclosed) (os : List Op) (a : At) → closed bs os ≡ one a → SoundAt a → Sound at_stmt bs os
closed_back [] os a h c = none a h
closed_back (mode.unclosed (whole k) ss ∷ bs) os a h c =
    let r = same_at _ _ _ a h c in
    let l = all_less os _ r.2 in
    (tt, (tt, tt, l.1, r.1), l.0)
closed_back (mode.unclosed (first_block e) ss ∷ bs) os a h c = let r = same_at _ _ _ a h c in (tt, (r.0.1, r.0.0, r.0.2, r.1), r.2)
closed_back (mode.unclosed (second_block e b) ss ∷ bs) os a h c =
    let r = same_at _ _ _ a h c in
    let l = put_back (choose e b ss) bs r.0 r.1 in
    (tt, ((l.0.0, l.0.1), l.1, l.0.2, l.2), r.2)
closed_back (mode.unclosed (turns n) ss ∷ bs) os a h c =
    let r = same_at _ _ _ a h c in
    let l = put_back (again n ss) bs r.0 r.1 in
    (tt, (tt, l.1, l.0, l.2), r.2)

stmt_back : (p : ℕ) (t : Token) (bs : List Unclosed) (os : List Op) (a : At) → on_stmt p t bs os ≡ one a → SoundAt a → Sound at_stmt bs os
stmt_back p (Fixed WordLet) bs os a h c = same_at at_let bs os a h c
stmt_back p (Named x long) bs os a h c = same_at (at_equals (for_assign p x)) bs os a h c
stmt_back p (Fixed WordRequire) bs os a h c = let r = same_at (in_expr for_require (want [])) bs os a h c in (r.0.0, r.1, r.2)
stmt_back p (Fixed WordIf) bs os a h c = let r = same_at (in_expr for_if (want [])) bs os a h c in (r.0.0, r.1, r.2)
stmt_back p (Fixed WordRepeat) bs os a h c = same_at at_count bs os a h c
stmt_back p (Fixed CloseBlock) bs os a h c = closed_back bs os a h c
stmt_back p _ bs os a h c = none a h

semicolon_back : (u : Use) (o : Option Tree) (s : Partial) (bs : List Unclosed) (os : List Op) (a : At) → ended s ≡ o → on_semicolon u o bs os ≡ one a → SoundAt a → Sound (in_expr u s) bs os
semicolon_back u None s bs os a is h c = none a h
semicolon_back (for_let p x) (Some e) s bs os a is h c = let r = same_at at_stmt _ os a h c in let l = put_back _ bs r.0 r.1 in ((l.1, ended_back s e is l.0), l.2, r.2)
semicolon_back (for_assign p x) (Some e) s bs os a is h c = let r = same_at at_stmt _ os a h c in let l = put_back _ bs r.0 r.1 in ((l.1, ended_back s e is l.0), l.2, r.2)
semicolon_back for_require (Some e) s bs os a is h c = let r = same_at at_stmt _ os a h c in let l = put_back _ bs r.0 r.1 in ((l.1, ended_back s e is l.0), l.2, r.2)
semicolon_back for_if (Some e) s bs os a is h c = none a h

brace_back : (u : Use) (o : Option Tree) (s : Partial) (bs : List Unclosed) (os : List Op) (a : At) → ended s ≡ o → on_brace u o bs os ≡ one a → SoundAt a → Sound (in_expr u s) bs os
brace_back u None s bs os a is h c = none a h
brace_back for_if (Some e) s bs os a is h c = let r = same_at at_stmt _ os a h c in ((r.1.1, ended_back s e is r.1.0), r.1.3, r.2)
brace_back _ (Some e) s bs os a is h c = none a h

state_back : (u : Use) (o : Option Partial) (s : Partial) (p : ℕ) (t : Token) (bs : List Unclosed) (os : List Op) (a : At) → taken s p t ≡ o → option_map (λ z. at (in_expr u z) bs os) o ≡ one a → SoundAt a → Sound (in_expr u s) bs os
state_back u None s p t bs os a is h c = none a h
state_back u (Some z) s p t bs os a is h c = let r = same_at (in_expr u z) bs os a h c in ((r.0.0, step_back s p t z is r.0.1), r.1, r.2)

expr_back : (u : Use) (s : Partial) (p : ℕ) (t : Token) (bs : List Unclosed) (os : List Op) (a : At) → on_expr u s p t bs os ≡ one a → SoundAt a → Sound (in_expr u s) bs os
expr_back u s p (Fixed Semicolon) bs os a h c = semicolon_back u (ended s) s bs os a refl h c
expr_back u s p (Fixed OpenBlock) bs os a h c = brace_back u (ended s) s bs os a refl h c
expr_back u s p t bs os a h c = state_back u (taken s p t) s p t bs os a refl h c

else_back : (e : Tree) (b : Statements) (p : ℕ) (t : Token) (bs : List Unclosed) (os : List Op) (a : At) → mode.on_else e b p t bs os ≡ one a → SoundAt a → Sound (at_else e b) bs os
else_back e b p (Fixed WordElse) bs os a h c = let r = same_at (at_block (second_block e b)) bs os a h c in ((r.0.1, r.0.0.0, r.0.0.1), r.1, r.2)
else_back e b p t bs os a h c =
    let r = stmt_back p t (with_stmt (choose e b nil) bs) os a h c in
    let l = put_back (choose e b nil) bs r.0 r.1 in
    ((l.1, l.0.0, l.0.1), l.2, r.2)

mode_back : (m : Mode) (p : ℕ) (t : Token) (bs : List Unclosed) (os : List Op) (a : At) → on_mode m p t bs os ≡ one a → SoundAt a → Sound m bs os
mode_back at_op p (Fixed WordOp) bs os a h c = same_at at_op_name bs os a h c
mode_back at_op p _ bs os a h c = none a h
mode_back at_op_name p (Named x long) bs os a h c = same_at (at_open p x) bs os a h c
mode_back at_op_name p _ bs os a h c = none a h
mode_back (at_open q x) p Open bs os a h c = same_at (at_first _) bs os a h c
mode_back (at_open q x) p _ bs os a h c = none a h
mode_back (at_first k) p (Named x long) bs os a h c = same_at (at_colon k p x) bs os a h c
mode_back (at_first k) p Close bs os a h c = let r = same_at (at_block (whole k)) bs os a h c in (tt, r.1, r.2)
mode_back (at_first k) p _ bs os a h c = none a h
mode_back (at_param k) p (Named x long) bs os a h c = same_at (at_colon k p x) bs os a h c
mode_back (at_param k) p _ bs os a h c = none a h
mode_back (at_colon k q x) p (Fixed Colon) bs os a h c = same_at (at_kind k q x) bs os a h c
mode_back (at_colon k q x) p _ bs os a h c = none a h
mode_back (at_kind k q x) p (Fixed WordRecord) bs os a h c = same_at (at_more _) bs os a h c
mode_back (at_kind k q x) p (Fixed WordNumber) bs os a h c = same_at (at_more _) bs os a h c
mode_back (at_kind k q x) p _ bs os a h c = none a h
mode_back (at_more k) p (Fixed Comma) bs os a h c = same_at (at_param k) bs os a h c
mode_back (at_more k) p Close bs os a h c = let r = same_at (at_block (whole k)) bs os a h c in (tt, r.1, r.2)
mode_back (at_more k) p _ bs os a h c = none a h
mode_back (at_block w) p (Fixed OpenBlock) bs os a h c = let r = same_at at_stmt (mode.unclosed w nil ∷ bs) os a h c in ((r.1.0, r.1.1), r.1.3, r.2)
mode_back (at_block w) p _ bs os a h c = none a h
mode_back at_stmt p t bs os a h c = stmt_back p t bs os a h c
mode_back at_let p (Named x long) bs os a h c = same_at (at_equals (for_let p x)) bs os a h c
mode_back at_let p _ bs os a h c = none a h
mode_back (at_equals u) p (Fixed Becomes) bs os a h c = let r = same_at (in_expr u (want [])) bs os a h c in (r.0.0, r.1, r.2)
mode_back (at_equals u) p _ bs os a h c = none a h
mode_back (in_expr u s) p t bs os a h c = expr_back u s p t bs os a h c
mode_back at_count p (Number n) bs os a h c = let r = same_at (at_block (turns n)) bs os a h c in (r.0.1, r.1, r.2)
mode_back at_count p _ bs os a h c = none a h
mode_back (at_else e b) p t bs os a h c = else_back e b p t bs os a h c

-- ---- whole runs

-- where the first token leads
record Steps (z a : At) (k : Placed) (ks : List Placed) : Type 0 where
  next : At
  step : advance z k ≡ one next
  rest : reached next ks ≡ one a

steps : (z a : At) (k : Placed) (ks : List Placed) → reached z (k ∷ ks) ≡ one a → Steps z a k ks
unfolding reached
steps z a k ks h = by_step (advance z k) refl h
  where
    by_step : (o : Option At) → advance z k ≡ o → option_and_then (λ y. reached y ks) o ≡ one a → Steps z a k ks
    by_step None is e = none a e
    by_step (Some y) is e = record { next = y; step = is; rest = e }

reached_back : (ks : List Placed) (z a : At) → reached z ks ≡ one a → SoundAt a → SoundAt z
unfolding reached advance
reached_back [] z a h c = same_at z.mode z.blocks z.done a h c
reached_back (k ∷ ks) z a h c =
    let s = steps z a k ks h in
    mode_back z.mode k.span.start k.token z.blocks z.done s.next s.step (reached_back ks s.next a s.rest c)

no_end : (m : Mode) (bs : List Unclosed) → ModeChained m bs → ends_chain m ≡ false
no_end (in_expr u (want (part (left op e) ∷ st))) bs c = c.1.0.0
no_end (in_expr u (want (part (negate p) ∷ st))) bs c = refl
no_end (in_expr u (want (group p ∷ st))) bs c = refl
no_end (in_expr u (want [])) bs c = refl
no_end (in_expr u (have e st)) bs c = refl
no_end _ bs c = refl

-- operations with no long chain have no token that ends one
pub no_chain_end : (ts : List Placed) (os : List Op) → SpellsOps ts os → AllChained os → (p : List Placed) (k : Placed) (rest : List Placed) → ts ≡ p ++ k ∷ rest → IsChainEnd p k → ⊥
no_chain_end ts os r chained p k rest is c =
    let run = subst (λ l. reached begin l ≡ one (at at_op [] os)) is (ops_read r) in
    let parts = between begin (at at_op [] os) p (k ∷ rest) run in
    let s = steps parts.middle (at at_op [] os) k rest parts.second in
    let sound = reached_back rest s.next (at at_op [] os) s.rest (tt, tt, chained) in
    let found = finds_chain p k parts.middle s.next parts.first s.step c in
    let never = no_end s.next.mode s.next.blocks sound.0 in
    cc
