-- The frames read exactly the grammar's expressions.
use Rattle.std.proofs.Common.{◌≡◌, ℕ, suc, ◌<◌, ◌≤◌, true, List, [], ◌∷◌, ◌++◌, Option, Some, None, option_and_then, refl, sym, ap, ◌∙◌, inl, inr, arith}
use Rattle.std.proofs.lemmas.Bool.{cases_lt, le-leb, lt-leb, ltb-true, lt-ltb}
use Rattle.contract_grammar.specs.declared.token.Operator.{Operator}
use Rattle.contract_grammar.specs.declared.token.Operator.TheVariants.{Or, And, Equal, NotEqual, Less, LessEqual, Greater, GreaterEqual, Plus, Minus, Times, Divide, Remainder}
use Rattle.contract_grammar.specs.declared.token.Token.TheVariants.{Infix, Not, Close}
use Rattle.contract_grammar.specs.declared.token.Placed.{Placed}
use Rattle.contract_grammar.specs.Tree.{Tree, number, name, negation, binary, first, begun_at}
use Rattle.contract_grammar.specs.Grammar.{tok, level, left_level, Spells, of_number, of_name, of_group, of_not, of_binary, of_tighter}
use Rattle.contract_grammar.specs.Expressions.{Part, left, negate, Pending, group, part, Partial, want, have, level_of, filled, folded, fits, pushed, on_infix, on_close, taken, tree_at_end, ended, after}

-- what is on top lets an operand of this level stand there
pub data Fits : ℕ → List Pending → Type 0 where
  at_start : {l : ℕ} → Fits l []
  in_group : {l at : ℕ} {st : List Pending} → Fits l (group at ∷ st)
  behind : {l : ℕ} {d : Part} {st : List Pending} → level_of d < l → Fits l (part d ∷ st)

pub fits_tighter : {l m : ℕ} {st : List Pending} → l ≤ m → Fits l st → Fits m st
fits_tighter le at_start = at_start
fits_tighter le in_group = in_group
fits_tighter le (behind lt) = behind (omega arith)

pub fits_true : {l : ℕ} {st : List Pending} → Fits l st → fits l st ≡ true
fits_true at_start = refl
fits_true in_group = refl
fits_true {l} (behind {d = d} lt) = lt-ltb (level_of d) l lt

pub true_fits : (l : ℕ) (st : List Pending) → fits l st ≡ true → Fits l st
true_fits l [] h = at_start
true_fits l (group at ∷ st) h = in_group
true_fits l (part d ∷ st) h = behind (ltb-true (level_of d) l h)

pub left_bounds : (op : Operator) → (level op ≤ left_level op) × (left_level op ≤ suc (level op)) × (level op < 6)
left_bounds Or = (omega arith, omega arith, omega arith)
left_bounds And = (omega arith, omega arith, omega arith)
left_bounds Equal = (omega arith, omega arith, omega arith)
left_bounds NotEqual = (omega arith, omega arith, omega arith)
left_bounds Less = (omega arith, omega arith, omega arith)
left_bounds LessEqual = (omega arith, omega arith, omega arith)
left_bounds Greater = (omega arith, omega arith, omega arith)
left_bounds GreaterEqual = (omega arith, omega arith, omega arith)
left_bounds Plus = (omega arith, omega arith, omega arith)
left_bounds Minus = (omega arith, omega arith, omega arith)
left_bounds Times = (omega arith, omega arith, omega arith)
left_bounds Divide = (omega arith, omega arith, omega arith)
left_bounds Remainder = (omega arith, omega arith, omega arith)

pub fold_stops : (l : ℕ) (e : Tree) (st : List Pending) → Fits l st → folded l e st ≡ have e st
fold_stops l e [] f = refl
fold_stops l e (group at ∷ st) f = refl
fold_stops l e (part d ∷ st) (behind lt) = rw (lt-leb l (level_of d) lt) refl

-- what has been folded, folded on
abbrev refolded : ℕ → Partial → Partial
refolded l (want st) = want st
refolded l (have e st) = folded l e st

fold_twice : (l m : ℕ) (e : Tree) (st : List Pending) → l ≤ m → refolded l (folded m e st) ≡ folded l e st
fold_twice l m e [] le = refl
fold_twice l m e (group at ∷ st) le = refl
fold_twice l m e (part d ∷ st) le =
    elim (cases_lt (level_of d) m) [
      | inl lt ↦ rw (lt-leb m (level_of d) lt) refl
      | inr ge ↦ rw (le-leb m (level_of d) ge, le-leb l (level_of d) (omega arith)) (fold_twice l m (filled d e) st le)
    ]

fold_on : (l m : ℕ) (e e' : Tree) (st st' : List Pending) → l ≤ m → folded m e st ≡ have e' st' → folded l e st ≡ folded l e' st'
fold_on l m e e' st st' le is = sym (fold_twice l m e st le) ∙ ap (refolded l) is

after-append : (s : Partial) (xs ys : List Placed) → after s (xs ++ ys) ≡ option_and_then (λ s'. after s' ys) (after s xs)
unfolding after
after-append s [] ys = refl
after-append s (t ∷ xs) ys = elim (taken s t.span.start t.token) as (λ o. option_and_then (λ s'. after s' (xs ++ ys)) o ≡ option_and_then (λ s'. after s' ys) (option_and_then (λ s'. after s' xs) o)) [ None ↦ refl | Some s' ↦ after-append s' xs ys ]

pub after_both : (s s' : Partial) (o : Option Partial) (xs ys : List Placed) → after s xs ≡ Some s' → after s' ys ≡ o → after s (xs ++ ys) ≡ o
after_both s s' o xs ys h k = after-append s xs ys ∙ ap (option_and_then (λ z. after z ys)) h ∙ k

pub after_one : (s s' : Partial) (t : Placed) (ts : List Placed) → taken s t.span.start t.token ≡ Some s' → after s (t ∷ ts) ≡ after s' ts
unfolding after
after_one s s' t ts h = ap (option_and_then (λ z. after z ts)) h

-- ---- each spelling is read

-- the tokens of an operand, read where one of this level is wanted
pub record Operand (l : ℕ) (ts : List Placed) (e : Tree) (st : List Pending) : Type 0 where
  pub last : Tree
  pub frames : List Pending
  pub comes : after (want st) ts ≡ Some (have last frames)
  pub folds : folded l last frames ≡ have e st

pushes : (d : Part) (st : List Pending) → Fits (level_of d) st → pushed d st ≡ Some (want (part d ∷ st))
pushes d st f = rw (fits_true f) refl

pub spelled : {l : ℕ} {ts : List Placed} {e : Tree} → Spells l ts e → (st : List Pending) → Fits l st → Operand l ts e st
unfolding taken after
spelled (of_number {w = w} {n = n}) st f = record { last = number w.start n; frames = st; comes = refl; folds = fold_stops 6 (number w.start n) st f }
spelled (of_name {w = w} {x = x}) st f = record { last = name w.start w.start x; frames = st; comes = refl; folds = fold_stops 6 (name w.start w.start x) st f }
spelled (of_group {w = w} {ts = ts} {e = e} z r) st f =
    let inner = spelled r (group w.start ∷ st) in_group in
    record {
      last = begun_at w.start e;
      frames = st;
      comes = after_both (want (group w.start ∷ st)) (have inner.last inner.frames) _ ts (tok z Close ∷ []) inner.comes (ap (λ s. option_and_then (λ y. Some y) (on_close s)) inner.folds);
      folds = fold_stops 6 (begun_at w.start e) st f;
    }
spelled (of_not {w = w} {ts = ts} {e = e} r) st f =
    let one = spelled r (part (negate w.start) ∷ st) (behind (omega arith)) in
    record {
      last = one.last;
      frames = one.frames;
      comes = after_one (want st) (want (part (negate w.start) ∷ st)) (tok w Not) ts (pushes (negate w.start) st f) ∙ one.comes;
      folds = fold_on 2 3 one.last e one.frames (part (negate w.start) ∷ st) (omega arith) one.folds ∙ fold_stops 2 (negation w.start e) st f;
    }
spelled (of_binary {xs = xs} {ys = ys} {a = a} {b = b} w op r q) st f =
    let bounds = left_bounds op in
    let one = spelled r st (fits_tighter bounds.0 f) in
    let two = spelled q (part (left op a) ∷ st) (behind (omega arith)) in
    let signed : taken (have one.last one.frames) w.start (Infix op) ≡ Some (want (part (left op a) ∷ st)) = ap (on_infix op) one.folds ∙ pushes (left op a) st f in
    record {
      last = two.last;
      frames = two.frames;
      comes = after_both (want st) (have one.last one.frames) _ xs (tok w (Infix op) ∷ ys) one.comes (after_one (have one.last one.frames) (want (part (left op a) ∷ st)) (tok w (Infix op)) ys signed ∙ two.comes);
      folds = fold_on (level op) (suc (level op)) two.last b two.frames (part (left op a) ∷ st) (omega arith) two.folds ∙ rw (le-leb (level op) (level op) (omega arith)) (fold_stops (level op) (binary (first a) op a b) st f);
    }
spelled (of_tighter {l = l} {e = e} r) st f =
    let one = spelled r st (fits_tighter (omega arith) f) in
    record {
      last = one.last;
      frames = one.frames;
      comes = one.comes;
      folds = fold_on l (suc l) one.last e one.frames st (omega arith) one.folds ∙ fold_stops l e st f;
    }

pub sentence_read : (ts : List Placed) (e : Tree) → Spells 0 ts e → (s : Partial) × (after (want []) ts ≡ Some s) × (ended s ≡ Some e)
unfolding ended
sentence_read ts e r =
    let one = spelled r [] at_start in
    (have one.last one.frames, one.comes, ap tree_at_end one.folds)
