-- What the frames have read is spelled so, and can go on.
use Rattle.std.proofs.Common.{◌≡◌, ℕ, zero, suc, ◌+◌, ◌-◌, ◌≤◌, Bool, true, false, List, [], ◌∷◌, ◌++◌, Option, Some, None, option_and_then, refl, ap, subst, ◌∙◌, ◌⊎◌, inl, inr, append_assoc, zero-add, suc-add, arith}
use Rattle.std.proofs.lemmas.Bool.{cases_lt, le-leb, lt-leb}
use Rattle.std.proofs.lemmas.List.{append-nil}
use Rattle.contract_grammar.specs.declared.token.Operator.{Operator}
use Rattle.contract_grammar.specs.declared.token.Token.{Token}
use Rattle.contract_grammar.specs.declared.token.Token.TheVariants.{Number, Named, Infix, Not, Open, Close}
use Rattle.contract_grammar.specs.declared.token.Extent.{Extent}
use Rattle.contract_grammar.specs.declared.token.Placed.{Placed}
use Rattle.contract_grammar.specs.Tree.{Tree, number, negation, binary, first, begun_at}
use Rattle.contract_grammar.specs.Grammar.{tok, level, left_level, Spells, of_number, of_name, of_group, of_not, of_binary, of_tighter}
use Rattle.contract_grammar.specs.Expressions.{Part, left, negate, Pending, group, part, Partial, want, have, level_of, filled, folded, fits, pushed, on_infix, on_close, on_want, on_have, taken, tree_at_end, ended, after}
use Rattle.contract_grammar.proofs.Expressions.{Fits, at_start, in_group, behind, true_fits, left_bounds}

-- the tokens that the frames hold
pub data Holds : List Pending → List Placed → Type 0 where
  empty : Holds [] []
  opened : {st : List Pending} {p : List Placed} (w : Extent) → Holds st p → Holds (group w.start ∷ st) (p ++ tok w Open ∷ [])
  signed : {st : List Pending} {p xs : List Placed} {a : Tree} (w : Extent) (op : Operator) → Holds st p → Fits (level op) st → Spells (left_level op) xs a
      → Holds (part (left op a) ∷ st) (p ++ (xs ++ tok w (Infix op) ∷ []))
  denied : {st : List Pending} {p : List Placed} (w : Extent) → Holds st p → Fits 2 st → Holds (part (negate w.start) ∷ st) (p ++ tok w Not ∷ [])

pub record Comes (e : Tree) (st : List Pending) (p : List Placed) (l : ℕ) : Type 0 where
  pub before : List Placed
  pub own : List Placed
  pub parts : p ≡ before ++ own
  pub holds : Holds st before
  pub spells : Spells l own e

-- the tokens so far, in this state
abbrev pub ReadTo : Partial → List Placed → Type 0
ReadTo (want st) p = Holds st p
ReadTo (have e st) p = Comes e st p 6

looser : (k : ℕ) {l : ℕ} {ts : List Placed} {e : Tree} → Spells (k + l) ts e → Spells l ts e
looser zero r = rw zero-add at r
looser (suc k) {l} r = looser k (of_tighter (rw suc-add at r))

pub loosened : (l m : ℕ) {ts : List Placed} {e : Tree} → l ≤ m → Spells m ts e → Spells l ts e
loosened l m le r = let is : m ≡ (m - l) + l = omega arith in looser (m - l) (rw is at r)

-- what stands on top after a fold to this level
pub record Folds (l : ℕ) (s : Partial) (p : List Placed) : Type 0 where
  pub tree : Tree
  pub frames : List Pending
  pub is : s ≡ have tree frames
  pub comes : Comes tree frames p l
  pub fits : Fits l frames

regrouped : (p xs ys : List Placed) (k : Placed) → (p ++ (xs ++ k ∷ [])) ++ ys ≡ p ++ (xs ++ k ∷ ys)
regrouped p xs ys k = simp append_assoc

regrouped_one : (p ys : List Placed) (k : Placed) → (p ++ k ∷ []) ++ ys ≡ p ++ k ∷ ys
regrouped_one p ys k = simp append_assoc

pub fold_reads : {st : List Pending} {q : List Placed} → Holds st q → (l m : ℕ) (e : Tree) (xs : List Placed) → Fits m st → l ≤ m → Spells m xs e → Folds l (folded l e st) (q ++ xs)
fold_reads empty l m e xs f le r = record { tree = e; frames = []; is = refl; comes = record { before = []; own = xs; parts = refl; holds = empty; spells = loosened l m le r }; fits = at_start }
fold_reads (opened {st = st} {p = p} w h) l m e xs f le r = record { tree = e; frames = group w.start ∷ st; is = refl; comes = record { before = p ++ tok w Open ∷ []; own = xs; parts = refl; holds = opened w h; spells = loosened l m le r }; fits = in_group }
fold_reads (signed {st = st} {p = p} {xs = ys} {a = a} w op h g s) l m e xs (behind lt) le r =
    elim (cases_lt (level op) l) [
      | inl below ↦ record {
        tree = e;
        frames = part (left op a) ∷ st;
        is = rw (lt-leb l (level op) below) refl;
        comes = record { before = p ++ (ys ++ tok w (Infix op) ∷ []); own = xs; parts = refl; holds = signed w op h g s; spells = loosened l m le r };
        fits = behind below;
      }
      | inr ge ↦
          let more = fold_reads h l (level op) (binary (first a) op a e) (ys ++ tok w (Infix op) ∷ xs) g ge (of_binary w op s (loosened (suc (level op)) m lt r)) in
          record { tree = more.tree; frames = more.frames; is = rw (le-leb l (level op) ge) more.is; comes = rw (regrouped p ys xs (tok w (Infix op))) more.comes; fits = more.fits }
    ]
fold_reads (denied {st = st} {p = p} w h g) l m e xs (behind lt) le r =
    elim (cases_lt 2 l) [
      | inl below ↦ record {
        tree = e;
        frames = part (negate w.start) ∷ st;
        is = rw (lt-leb l 2 below) refl;
        comes = record { before = p ++ tok w Not ∷ []; own = xs; parts = refl; holds = denied w h g; spells = loosened l m le r };
        fits = behind below;
      }
      | inr ge ↦
          let more = fold_reads h l 2 (negation w.start e) (tok w Not ∷ xs) g ge (of_not (loosened 3 m lt r)) in
          record { tree = more.tree; frames = more.frames; is = rw (le-leb l 2 ge) more.is; comes = rw (regrouped_one p xs (tok w Not)) more.comes; fits = more.fits }
    ]

at_atom : (st : List Pending) → Fits 6 st
at_atom [] = at_start
at_atom (group at ∷ st) = in_group
at_atom (part (left op a) ∷ st) = behind (left_bounds op).2
at_atom (part (negate at) ∷ st) = behind (omega arith)

-- a fold of what has been read
pub folds_of : (e : Tree) (st : List Pending) (p : List Placed) (l : ℕ) → l ≤ 6 → Comes e st p 6 → Folds l (folded l e st) p
folds_of e st p l le c = rw c.parts (fold_reads c.holds l 6 e c.own (at_atom st) le c.spells)

-- ---- one token more

abbrev some : Partial → Option Partial
some s = Some s

some_is : (s s' : Partial) → some s ≡ some s' → s ≡ s'
some_is s s' h = cc

none_some : {A : Type 0} (s : Partial) → None ≡ some s → A
none_some s h = absurd cc

become : (s s' : Partial) (p : List Placed) → some s ≡ some s' → ReadTo s p → ReadTo s' p
become s s' p h r = let is : s ≡ s' = cc in subst (λ z. ReadTo z p) is r

-- what a part on the frames means for the state that comes
pub pushed_is : (d : Part) (st : List Pending) (s' : Partial) (b : Bool) → fits (level_of d) st ≡ b → pushed d st ≡ some s' → Fits (level_of d) st × (want (part d ∷ st) ≡ s')
pushed_is d st s' true is h = let yes : some (want (part d ∷ st)) ≡ some s' = rw is at h in (true_fits (level_of d) st is, some_is _ _ yes)
pushed_is d st s' false is h = none_some s' (rw is at h)

signed_reads : (w : Extent) (op : Operator) (e : Tree) (st : List Pending) (s' : Partial) (p : List Placed) → Comes e st p (left_level op) → pushed (left op e) st ≡ some s' → ReadTo s' (p ++ tok w (Infix op) ∷ [])
signed_reads w op e st s' p c h =
    let on = pushed_is (left op e) st s' (fits (level op) st) refl h in
    rw (← on.1, c.parts, append_assoc) (signed w op c.holds on.0 c.spells)

infix_reads : (w : Extent) (op : Operator) (z s' : Partial) (p : List Placed) → Folds (left_level op) z p → on_infix op z ≡ some s' → ReadTo s' (p ++ tok w (Infix op) ∷ [])
infix_reads w op z s' p f h = signed_reads w op f.tree f.frames s' p f.comes (rw f.is at h)

denied_reads : (w : Extent) (st : List Pending) (s' : Partial) (p : List Placed) → Holds st p → pushed (negate w.start) st ≡ some s' → ReadTo s' (p ++ tok w Not ∷ [])
denied_reads w st s' p r h =
    let on = pushed_is (negate w.start) st s' (fits 2 st) refl h in
    rw (← on.1) (denied w r on.0)

pub record Under (at : ℕ) (st : List Pending) (p : List Placed) : Type 0 where
  pub place : Extent
  pub before : List Placed
  pub holds : Holds st before
  pub parts : p ≡ before ++ tok place Open ∷ []
  pub is : at ≡ place.start

under_group : {at : ℕ} {st : List Pending} {p : List Placed} → Holds (group at ∷ st) p → Under at st p
under_group (opened {p = p} w h) = record { place = w; before = p; holds = h; parts = refl; is = refl }

-- a parenthesis closes the one on top
closed_on : (w : Extent) (e : Tree) (st : List Pending) (s' : Partial) (p : List Placed) → Comes e st p 0 → on_close (have e st) ≡ some s' → ReadTo s' (p ++ tok w Close ∷ [])
closed_on w e [] s' p c h = none_some s' h
closed_on w e (part d ∷ st) s' p c h = none_some s' h
closed_on w e (group at ∷ st) s' p c h =
    let under = under_group c.holds in
    become (have (begun_at at e) st) s' _ h (rw under.is (record {
      before = under.before;
      own = tok under.place Open ∷ (c.own ++ tok w Close ∷ []);
      parts = ap (λ v. v ++ tok w Close ∷ []) c.parts ∙ ap (λ v. (v ++ c.own) ++ tok w Close ∷ []) under.parts ∙ simp append_assoc;
      holds = under.holds;
      spells = of_group w c.spells;
    }))

closed_reads : (w : Extent) (z s' : Partial) (p : List Placed) → Folds 0 z p → on_close z ≡ some s' → ReadTo s' (p ++ tok w Close ∷ [])
closed_reads w z s' p f h = closed_on w f.tree f.frames s' p f.comes (rw f.is at h)

want_reads : (w : Extent) (t : Token) (st : List Pending) (s' : Partial) (p : List Placed) → Holds st p → on_want w.start t st ≡ some s' → ReadTo s' (p ++ tok w t ∷ [])
want_reads w (Number n) st s' p r h = become _ s' _ h (record { before = p; own = tok w (Number n) ∷ []; parts = refl; holds = r; spells = of_number })
want_reads w (Named x long) st s' p r h = become _ s' _ h (record { before = p; own = tok w (Named x long) ∷ []; parts = refl; holds = r; spells = of_name })
want_reads w Open st s' p r h = become _ s' _ h (opened w r)
want_reads w Not st s' p r h = denied_reads w st s' p r h
want_reads w _ st s' p r h = none_some s' h

have_reads : (w : Extent) (t : Token) (e : Tree) (st : List Pending) (s' : Partial) (p : List Placed) → Comes e st p 6 → on_have t e st ≡ some s' → ReadTo s' (p ++ tok w t ∷ [])
have_reads w (Infix op) e st s' p r h = infix_reads w op (folded (left_level op) e st) s' p (folds_of e st p (left_level op) (omega (arith, (left_bounds op).1, (left_bounds op).2)) r) h
have_reads w Close e st s' p r h = closed_reads w (folded 0 e st) s' p (folds_of e st p 0 (omega arith) r) h
have_reads w _ e st s' p r h = none_some s' h

pub step_reads : (s s' : Partial) (p : List Placed) (w : Extent) (t : Token) → ReadTo s p → taken s w.start t ≡ some s' → ReadTo s' (p ++ tok w t ∷ [])
unfolding taken
step_reads (want st) s' p w t r h = want_reads w t st s' p r h
step_reads (have e st) s' p w t r h = have_reads w t e st s' p r h

by_step : (s s' : Partial) (p : List Placed) (k : Placed) (ts : List Placed) (o : Option Partial) → ReadTo s p → taken s k.span.start k.token ≡ o
    → ((z : Partial) → ReadTo z (p ++ k ∷ []) → after z ts ≡ some s' → ReadTo s' ((p ++ k ∷ []) ++ ts)) → option_and_then (λ z. after z ts) o ≡ some s' → ReadTo s' (p ++ k ∷ ts)
by_step s s' p k ts None r is again h = none_some s' h
by_step s s' p k ts (Some z) r is again h = rw (append_assoc p (k ∷ []) ts) at (again z (step_reads s z p k.span k.token r is) h)

pub all_read : (s s' : Partial) (p ts : List Placed) → ReadTo s p → after s ts ≡ some s' → ReadTo s' (p ++ ts)
unfolding after
all_read s s' p [] r h = rw append-nil (become s s' p h r)
all_read s s' p (k ∷ ts) r h = by_step s s' p k ts (taken s k.span.start k.token) r refl (λ z. all_read z s' (p ++ k ∷ []) ts) h

nothing_held : {p : List Placed} → Holds [] p → p ≡ []
nothing_held empty = refl

abbrev some_tree : Tree → Option Tree
some_tree e = Some e

same_tree : (e e' : Tree) → some_tree e ≡ some_tree e' → e ≡ e'
same_tree e e' h = cc

tree_at_end_reads : (e : Tree) (st : List Pending) (e' : Tree) (p : List Placed) → Comes e st p 0 → tree_at_end (have e st) ≡ some_tree e' → Spells 0 p e'
tree_at_end_reads e [] e' p c h = rw (c.parts ∙ ap (λ v. v ++ c.own) (nothing_held c.holds), ← same_tree e e' h) c.spells
tree_at_end_reads e (f ∷ st) e' p c h = absurd cc

pub ended_reads : (s : Partial) (p : List Placed) (e : Tree) → ReadTo s p → ended s ≡ some_tree e → Spells 0 p e
unfolding ended
ended_reads (want st) p e r h = absurd cc
ended_reads (have last st) p e r h =
    let f = folds_of last st p 0 (omega arith) r in
    tree_at_end_reads f.tree f.frames e p f.comes (rw f.is at h)

-- ---- what has been read can go on

-- somewhere
abbrev pub nowhere : Extent
nowhere = record { start = 0; end = 0 }

abbrev closes : List Pending → List Placed
closes [] = []
closes (group at ∷ st) = tok nowhere Close ∷ closes st
closes (part d ∷ st) = closes st

abbrev Finishes : Partial → List Placed → Type 0
Finishes s ts = (s' : Partial) × (after s ts ≡ Some s') × (e : Tree) × (ended s' ≡ Some e)

fold_first : (d : Part) (e : Tree) (st : List Pending) → folded 0 e (part d ∷ st) ≡ folded 0 (filled d e) st
fold_first d e st = rw (le-leb 0 (level_of d) (omega arith)) refl

-- the end or a parenthesis that closes folds every part
folds_first : (d : Part) (e : Tree) (st : List Pending) (ts : List Placed) → (ts ≡ []) ⊎ ((more : List Placed) × (ts ≡ tok nowhere Close ∷ more)) → Finishes (have (filled d e) st) ts → Finishes (have e (part d ∷ st)) ts
unfolding taken after ended
folds_first d e st ts (inl is) f =
    let same : have (filled d e) st ≡ f.0 = some_is _ _ (rw is at f.1) in
    rw is (have e (part d ∷ st), refl, f.2, ap tree_at_end (fold_first d e st) ∙ rw (← same) at f.3)
folds_first d e st ts (inr more) f = rw more.1 (f.0, ap (λ z. option_and_then (λ s'. after s' more.0) (on_close z)) (fold_first d e st) ∙ rw more.1 at f.1, f.2, f.3)

closes_is : (st : List Pending) → (closes st ≡ []) ⊎ ((more : List Placed) × (closes st ≡ tok nowhere Close ∷ more))
closes_is [] = inl refl
closes_is (group at ∷ st) = inr (closes st, refl)
closes_is (part d ∷ st) = closes_is st

finishes : (e : Tree) (st : List Pending) → Finishes (have e st) (closes st)
unfolding taken after ended
finishes e [] = (have e [], refl, e, refl)
finishes e (group at ∷ st) = finishes (begun_at at e) st
finishes e (part d ∷ st) = folds_first d e st (closes st) (closes_is st) (finishes (filled d e) st)

abbrev pub ExpressionGoesOn : List Placed → Type 0
ExpressionGoesOn p = (rest : List Placed) × (e : Tree) × Spells 0 (p ++ rest) e

finished : (s s' : Partial) (p ts : List Placed) (e : Tree) → ReadTo s p → after s ts ≡ Some s' → ended s' ≡ Some e → ExpressionGoesOn p
finished s s' p ts e r h k = (ts, e, ended_reads s' (p ++ ts) e (all_read s s' p ts r h) k)

pub expression_goes_on : (s : Partial) (p : List Placed) → ReadTo s p → ExpressionGoesOn p
unfolding taken after
expression_goes_on (want st) p r = let f = finishes (number 0 0) st in finished (want st) f.0 p (tok nowhere (Number 0) ∷ closes st) f.2 r f.1 f.3
expression_goes_on (have e st) p r = let f = finishes e st in finished (have e st) f.0 p (closes st) f.2 r f.1 f.3
