-- Where the tokens have the end of a chain, the reader finds it.
use Rattle.std.proofs.Common.{◌≡◌, ℕ, ◌<◌, ◌≤◌, Bool, true, false, List, [], ◌∷◌, ◌++◌, Option, Some, None, option_map, option_and_then, refl, sym, ap, subst, ◌∙◌, ◌⊎◌, inl, inr}
use Rattle.std.proofs.lemmas.Bool.{le-leb}
use Rattle.contract_grammar.specs.declared.token.Mark.TheVariants.{WordRequire, WordIf, Becomes}
use Rattle.contract_grammar.specs.declared.token.Operator.{Operator}
use Rattle.contract_grammar.specs.declared.token.Token.{Token}
use Rattle.contract_grammar.specs.declared.token.Token.TheVariants.{Number, Named, Infix, Not, Open, Close, Fixed}
use Rattle.contract_grammar.specs.declared.token.Placed.{Placed}
use Rattle.contract_grammar.specs.declared.tree.Head.{Head}
use Rattle.contract_grammar.specs.Tree.{Tree, Op}
use Rattle.contract_grammar.specs.Grammar.{tok, level, left_level, Spells, of_number, of_name, of_group, of_not, of_binary, of_tighter}
use Rattle.contract_grammar.specs.Expressions.{Part, left, negate, Pending, group, part, Partial, want, have, level_of, folded, fits, pushed, on_infix, taken}
use Rattle.contract_grammar.specs.Modes.{Purpose, Unclosed, Use, Mode, At, at, advance, reached, begin, on_expr, on_mode, at_open, at_first, at_colon, at_block, at_stmt, at_equals, in_expr, at_else}
use Rattle.contract_grammar.specs.Limits.{Looser, behind_open, behind_infix, behind_not, behind_becomes, behind_require, behind_if, is_chain, chain_length, IsChainEnd}
use Rattle.contract_grammar.specs.Reading.{ends_chain}
use Rattle.contract_grammar.proofs.Expressions.{Fits, at_start, in_group, behind, fits_true, spelled}
use Rattle.contract_grammar.proofs.Runs.{one, none, reached-append, expr_run}
use Rattle.contract_grammar.proofs.Chains.{chain_left}

-- a run of two parts has a state in between
pub record Between (a b : At) (xs ys : List Placed) : Type 0 where
  pub middle : At
  pub first : reached a xs ≡ Some middle
  pub second : reached middle ys ≡ Some b

pub between : (a b : At) (xs ys : List Placed) → reached a (xs ++ ys) ≡ one b → Between a b xs ys
between a b xs ys h = by_first (reached a xs) refl (sym (reached-append a xs ys) ∙ h)
  where
    by_first : (o : Option At) → reached a xs ≡ o → option_and_then (λ z. reached z ys) o ≡ one b → Between a b xs ys
    by_first None is k = none b k
    by_first (Some z) is k = record { middle = z; first = is; second = k }

-- a run begins with one token
record Begins (a b : At) (k : Placed) (ks : List Placed) : Type 0 where
  next : At
  step : advance a k ≡ Some next
  rest : reached next ks ≡ Some b

begins : (a b : At) (k : Placed) (ks : List Placed) → reached a (k ∷ ks) ≡ one b → Begins a b k ks
unfolding reached
begins a b k ks h = by_step (advance a k) refl h
  where
    by_step : (o : Option At) → advance a k ≡ o → option_and_then (λ z. reached z ks) o ≡ one b → Begins a b k ks
    by_step None is e = none b e
    by_step (Some z) is e = record { next = z; step = is; rest = e }

-- inside a head, where no expression stands
data InHead : Mode → Type 0 where
  head_first : {h : Head} → InHead (at_first h)
  head_colon : {h : Head} {a : ℕ} {x : List ℕ} → InHead (at_colon h a x)
  head_block : {w : Purpose} → InHead (at_block w)

-- an operand of this level is wanted here
record Wants (l : ℕ) (z : At) : Type 0 where
  purpose : Use
  frames : List Pending
  fits : Fits l frames
  is : z.mode ≡ in_expr purpose (want frames)

abbrev Behind : ℕ → At → Type 0
Behind l z = InHead z.mode ⊎ Wants l z

moved : (l : ℕ) (a a' : At) → one a ≡ one a' → Behind l a → Behind l a'
moved l a a' h r = let is : a ≡ a' = cc in subst (λ z. Behind l z) is r

wants : (l : ℕ) (u : Use) (st : List Pending) (bs : List Unclosed) (os : List Op) (a : At) → one (at (in_expr u (want st)) bs os) ≡ one a → Fits l st → Behind l a
wants l u st bs os a h f = moved l _ a h (inr (record { purpose = u; frames = st; fits = f; is = refl }))

open_behind : (l : ℕ) (m : Mode) (p : ℕ) (bs : List Unclosed) (os : List Op) (a : At) → on_mode m p Open bs os ≡ one a → Behind l a
unfolding taken
open_behind l (at_open c x) p bs os a h = moved l _ a h (inl head_first)
open_behind l (in_expr u (want st)) p bs os a h = wants l u (group p ∷ st) bs os a h in_group
open_behind l (in_expr u (have e st)) p bs os a h = none a h
open_behind l _ p bs os a h = none a h

-- a part on the frames
pushed_behind : (l : ℕ) (u : Use) (d : Part) (st : List Pending) (b : Bool) (bs : List Unclosed) (os : List Op) (a : At) → level_of d < l → fits (level_of d) st ≡ b → option_map (λ z. at (in_expr u z) bs os) (pushed d st) ≡ one a → Behind l a
pushed_behind l u d st true bs os a lt is h = wants l u (part d ∷ st) bs os a (rw is at h) (behind lt)
pushed_behind l u d st false bs os a lt is h = none a (rw is at h)

infix_behind : (l : ℕ) (u : Use) (op : Operator) (s : Partial) (bs : List Unclosed) (os : List Op) (a : At) → level op < l → option_map (λ z. at (in_expr u z) bs os) (on_infix op s) ≡ one a → Behind l a
infix_behind l u op (want st) bs os a lt h = none a h
infix_behind l u op (have e st) bs os a lt h = pushed_behind l u (left op e) st (fits (level op) st) bs os a lt refl h

operator_behind : (l : ℕ) (op : Operator) (m : Mode) (p : ℕ) (bs : List Unclosed) (os : List Op) (a : At) → level op < l → on_mode m p (Infix op) bs os ≡ one a → Behind l a
unfolding taken
operator_behind l op (in_expr u (want st)) p bs os a lt h = none a h
operator_behind l op (in_expr u (have e st)) p bs os a lt h = infix_behind l u op (folded (left_level op) e st) bs os a lt h
operator_behind l op _ p bs os a lt h = none a h

not_behind : (l : ℕ) (m : Mode) (p : ℕ) (bs : List Unclosed) (os : List Op) (a : At) → 2 < l → on_mode m p Not bs os ≡ one a → Behind l a
unfolding taken
not_behind l (in_expr u (want st)) p bs os a lt h = pushed_behind l u (negate p) st (fits 2 st) bs os a lt refl h
not_behind l (in_expr u (have e st)) p bs os a lt h = none a h
not_behind l _ p bs os a lt h = none a h

becomes_behind : (l : ℕ) (m : Mode) (p : ℕ) (bs : List Unclosed) (os : List Op) (a : At) → on_mode m p (Fixed Becomes) bs os ≡ one a → Behind l a
unfolding taken
becomes_behind l (at_equals u) p bs os a h = wants l u [] bs os a h at_start
becomes_behind l (in_expr u (want st)) p bs os a h = none a h
becomes_behind l (in_expr u (have e st)) p bs os a h = none a h
becomes_behind l _ p bs os a h = none a h

require_behind : (l : ℕ) (m : Mode) (p : ℕ) (bs : List Unclosed) (os : List Op) (a : At) → on_mode m p (Fixed WordRequire) bs os ≡ one a → Behind l a
unfolding taken
require_behind l at_stmt p bs os a h = wants l _ [] bs os a h at_start
require_behind l (at_else e b) p bs os a h = wants l _ [] _ os a h at_start
require_behind l (in_expr u (want st)) p bs os a h = none a h
require_behind l (in_expr u (have e st)) p bs os a h = none a h
require_behind l _ p bs os a h = none a h

if_behind : (l : ℕ) (m : Mode) (p : ℕ) (bs : List Unclosed) (os : List Op) (a : At) → on_mode m p (Fixed WordIf) bs os ≡ one a → Behind l a
unfolding taken
if_behind l at_stmt p bs os a h = wants l _ [] bs os a h at_start
if_behind l (at_else e b) p bs os a h = wants l _ [] _ os a h at_start
if_behind l (in_expr u (want st)) p bs os a h = none a h
if_behind l (in_expr u (have e st)) p bs os a h = none a h
if_behind l _ p bs os a h = none a h

looser_behind : (l : ℕ) (m : Mode) (p : ℕ) (t : Token) (bs : List Unclosed) (os : List Op) (a : At) → Looser l t → on_mode m p t bs os ≡ one a → Behind l a
looser_behind l m p _ bs os a behind_open h = open_behind l m p bs os a h
looser_behind l m p _ bs os a (behind_infix {op = op} lt) h = operator_behind l op m p bs os a lt h
looser_behind l m p _ bs os a (behind_not lt) h = not_behind l m p bs os a lt h
looser_behind l m p _ bs os a behind_becomes h = becomes_behind l m p bs os a h
looser_behind l m p _ bs os a behind_require h = require_behind l m p bs os a h
looser_behind l m p _ bs os a behind_if h = if_behind l m p bs os a h

-- ---- inside a head the tokens of an expression lead nowhere else

data IsOperandToken : Token → Type 0 where
  operand_number : {n : ℕ} → IsOperandToken (Number n)
  operand_name : {x : List ℕ} {long : Bool} → IsOperandToken (Named x long)
  operand_infix : {op : Operator} → IsOperandToken (Infix op)
  operand_not : IsOperandToken Not
  operand_open : IsOperandToken Open
  operand_close : IsOperandToken Close

abbrev AreOperandTokens : List Placed → Type 0
AreOperandTokens [] = Unit {0}
AreOperandTokens (k ∷ ks) = IsOperandToken k.token × AreOperandTokens ks

are_operands : (xs ys : List Placed) → AreOperandTokens xs → AreOperandTokens ys → AreOperandTokens (xs ++ ys)
are_operands [] ys h g = g
are_operands (x ∷ xs) ys h g = (h.0, are_operands xs ys h.1 g)

spelled_operands : {l : ℕ} {ts : List Placed} {e : Tree} → Spells l ts e → AreOperandTokens ts
spelled_operands of_number = (operand_number, tt)
spelled_operands of_name = (operand_name, tt)
spelled_operands (of_group {ts = ts} z r) = (operand_open, are_operands ts (tok z Close ∷ []) (spelled_operands r) (operand_close, tt))
spelled_operands (of_not r) = (operand_not, spelled_operands r)
spelled_operands (of_binary {xs = xs} {ys = ys} w op r q) = are_operands xs (tok w (Infix op) ∷ ys) (spelled_operands r) (operand_infix, spelled_operands q)
spelled_operands (of_tighter r) = spelled_operands r

head_moved : (a a' : At) → one a ≡ one a' → InHead a.mode → InHead a'.mode
head_moved a a' h r = let is : a ≡ a' = cc in subst (λ (z : At). InHead z.mode) is r

head_stays : (m : Mode) (p : ℕ) (t : Token) (bs : List Unclosed) (os : List Op) (a : At) → InHead m → IsOperandToken t → on_mode m p t bs os ≡ one a → InHead a.mode
head_stays _ p _ bs os a head_first operand_name h = head_moved _ a h head_colon
head_stays _ p _ bs os a head_first operand_close h = head_moved _ a h head_block
head_stays _ p _ bs os a head_first _ h = none a h
head_stays _ p _ bs os a head_colon operand_name h = none a h
head_stays _ p _ bs os a head_colon _ h = none a h
head_stays _ p _ bs os a head_block operand_name h = none a h
head_stays _ p _ bs os a head_block _ h = none a h

head_run : (z a : At) (ts : List Placed) → InHead z.mode → AreOperandTokens ts → reached z ts ≡ one a → InHead a.mode
unfolding reached advance
head_run z a [] i all h = head_moved z a h i
head_run z a (k ∷ ts) i all h =
    let first = begins z a k ts h in
    head_run first.next a ts (head_stays z.mode k.span.start k.token z.blocks z.done first.next i all.0 first.step) all.1 first.rest

no_infix : {A : Type 0} (m : Mode) (p : ℕ) (op : Operator) (bs : List Unclosed) (os : List Op) (a : At) → InHead m → on_mode m p (Infix op) bs os ≡ one a → A
no_infix _ p op bs os a head_first h = none a h
no_infix _ p op bs os a head_colon h = none a h
no_infix _ p op bs os a head_block h = none a h

-- ---- the end of a chain

chain_here : (u : Use) (op : Operator) (e : Tree) (st : List Pending) (s : Partial) (p : ℕ) (bs : List Unclosed) (os : List Op) (a : At) → is_chain op ≡ true → 32 ≤ chain_length (level op) e → Fits (level op) st
    → (last : Tree) (frames : List Pending) → s ≡ have last frames → folded (level op) last frames ≡ have e st → on_expr u s p (Infix op) bs os ≡ one a → ends_chain a.mode ≡ true
unfolding taken
chain_here u op e st s p bs os a chains long f last frames is folds h =
    let stepped : on_infix op (folded (left_level op) last frames) ≡ Some (want (part (left op e) ∷ st)) = rw (chain_left op chains, folds, fits_true f) refl in
    let come : one (at (in_expr u (want (part (left op e) ∷ st))) bs os) ≡ one a = sym (ap (option_map (λ y. at (in_expr u y) bs os)) stepped) ∙ rw is at h in
    let same : at (in_expr u (want (part (left op e) ∷ st))) bs os ≡ a = cc in
    rw (← same, chains, le-leb 32 (chain_length (level op) e) long) refl

pub finds_chain : (p : List Placed) (k : Placed) (z a : At) → reached begin p ≡ one z → advance z k ≡ one a → IsChainEnd p k → ends_chain a.mode ≡ true
unfolding advance
finds_chain p k z a h is c =
    let parts = between begin z c.stands.before (c.stands.token ∷ c.stands.own) (rw c.stands.parts at h) in
    let first = begins parts.middle z c.stands.token c.stands.own parts.second in
    by_side first.next first.rest (looser_behind (level c.operator) parts.middle.mode c.stands.token.span.start c.stands.token.token parts.middle.blocks parts.middle.done first.next c.stands.looser first.step)
  where
    by_side : (y : At) → reached y c.stands.own ≡ one z → Behind (level c.operator) y → ends_chain a.mode ≡ true
    by_side y run (inl i) = no_infix z.mode k.span.start c.operator z.blocks z.done a (head_run y z c.stands.own i (spelled_operands c.stands.spells) run) (rw c.is at is)
    by_side y run (inr w) =
        let inner = spelled c.stands.spells w.frames w.fits in
        let from : y ≡ at (in_expr w.purpose (want w.frames)) y.blocks y.done = ap (λ m. at m y.blocks y.done) w.is in
        let there = expr_run w.purpose (want w.frames) (have inner.last inner.frames) c.stands.own y.blocks y.done inner.comes in
        let come : one z ≡ one (at (in_expr w.purpose (have inner.last inner.frames)) y.blocks y.done) = sym run ∙ ap (λ v. reached v c.stands.own) from ∙ there in
        let same : z ≡ at (in_expr w.purpose (have inner.last inner.frames)) y.blocks y.done = cc in
        let next : on_mode z.mode k.span.start (Infix c.operator) z.blocks z.done ≡ one a = rw c.is at is in
        chain_here w.purpose c.operator c.operand w.frames (have inner.last inner.frames) k.span.start y.blocks y.done a c.chains c.long w.fits inner.last inner.frames refl inner.folds (subst (λ (v : At). on_mode v.mode k.span.start (Infix c.operator) v.blocks v.done ≡ one a) same next)
