-- Tokens that pass no limit, but for the length of an operation: places don't count.
use Rattle.std.proofs.Common.{◌≡◌, ℕ, suc, ◌+◌, ◌-◌, ◌≤◌, Bool, true, false, nat_lt, nat_le, List, [], ◌∷◌, ◌++◌, refl, ap, ◌∙◌, subst, sym, arith, inl, inr}
use Rattle.std.proofs.lemmas.Bool.{cases_lt, le-ltb, lt-ltb}
use Rattle.std.proofs.lemmas.Bool.Decides.{nat_tests}
use Rattle.contract_grammar.specs.declared.token.Mark.TheVariants.{OpenBlock}
use Rattle.contract_grammar.specs.declared.token.Token.{Token}
use Rattle.contract_grammar.specs.declared.token.Token.TheVariants.{Number, Named, Infix, Not, Open, Close, Fixed}
use Rattle.contract_grammar.specs.declared.token.Placed.{Placed}
use Rattle.contract_grammar.specs.Tree.{Tree, number, name, negation, binary}
use Rattle.contract_grammar.specs.Grammar.{tok, level, left_level, Spells, of_number, of_name, of_group, of_not, of_binary, of_tighter}
use Rattle.contract_grammar.specs.Limits.{plain, Scope, Tally, ops_after, commas_after, parentheses_after, scopes_after, previous_after, is_large, is_long_name, is_bad_count, is_deep, is_further_name, is_further_op}
use Rattle.contract_grammar.proofs.Expressions.{left_bounds}
use Rattle.contract_printer.specs.Printed.{grouped, printed}
use Rattle.contract_printer.proofs.Between.{toks, toks-append}
use Rattle.contract_printer.proofs.Shortest.{printed_begun}

-- the tally after a token, without places
abbrev pub stepped : Tally → Token → Tally
stepped c t = record { ops = ops_after c.ops t; begun = 0; commas = commas_after c.commas t; parentheses = parentheses_after c.parentheses t; scopes = scopes_after c.previous c.scopes t; previous = previous_after c.previous t }

abbrev pub walked : Tally → List Token → Tally
walked c [] = c
walked c (t ∷ ts) = walked (stepped c t) ts

-- the token passes no limit, wherever it stands
pub record Allowed (c : Tally) (t : Token) : Type 0 where
  pub large : is_large t ≡ false
  pub long : is_long_name t ≡ false
  pub count : is_bad_count c.previous c.scopes t ≡ false
  pub deep : is_deep c.parentheses c.scopes t ≡ false
  pub further : is_further_name c.previous c.commas c.scopes t ≡ false
  pub op : is_further_op c.ops t ≡ false

abbrev pub Calm : Tally → List Token → Type 0
Calm c [] = Unit {0}
Calm c (t ∷ ts) = Allowed c t × Calm (stepped c t) ts

pub walked_both : (c : Tally) (xs ys : List Token) → walked c (xs ++ ys) ≡ walked (walked c xs) ys
walked_both c [] ys = refl
walked_both c (x ∷ xs) ys = walked_both (stepped c x) xs ys

pub calm_parts : (c : Tally) (xs ys : List Token) → Calm c (xs ++ ys) → Calm c xs × Calm (walked c xs) ys
calm_parts c [] ys h = (tt, h)
calm_parts c (x ∷ xs) ys h = let r = calm_parts (stepped c x) xs ys h.1 in ((h.0, r.0), r.1)

pub calm_both : (c : Tally) (xs ys : List Token) → Calm c xs → Calm (walked c xs) ys → Calm c (xs ++ ys)
calm_both c [] ys h g = g
calm_both c (x ∷ xs) ys h g = (h.0, calm_both (stepped c x) xs ys h.1 g)

-- behind no word of a limit
abbrev pub base : ℕ → ℕ → ℕ → List Scope → Tally
base o m p s = record { ops = o; begun = 0; commas = m; parentheses = p; scopes = s; previous = plain }

-- ---- fewer open parentheses

abbrev at_depth : Tally → ℕ → Tally
at_depth c q = record { ops = c.ops; begun = c.begun; commas = c.commas; parentheses = q; scopes = c.scopes; previous = c.previous }

not_deep : (p q : ℕ) → q ≤ p → nat_le 32 p ≡ false → nat_le 32 q ≡ false
not_deep p q le h = grind (arith, nat_tests)

lower_deep : (t : Token) (p q : ℕ) (s : List Scope) → q ≤ p → is_deep p s t ≡ false → is_deep q s t ≡ false
lower_deep Open p q s le h = not_deep p q le h
lower_deep (Fixed OpenBlock) p q s le h = h
lower_deep _ p q s le h = refl

less_after : (t : Token) (p q : ℕ) → q ≤ p → parentheses_after q t ≤ parentheses_after p t
less_after Open p q le = omega arith
less_after Close p q le = omega arith
less_after _ p q le = le

lowered : (c : Tally) (q : ℕ) (us : List Token) → q ≤ c.parentheses → Calm c us → Calm (at_depth c q) us
lowered c q [] le h = tt
lowered c q (t ∷ us) le h = (
  record { large = h.0.large; long = h.0.long; count = h.0.count; deep = lower_deep t c.parentheses q c.scopes le h.0.deep; further = h.0.further; op = h.0.op },
  lowered (stepped c t) (parentheses_after q t) us (less_after t c.parentheses q le) h.1,
)

-- ---- expressions

module _ (o m : ℕ) (s : List Scope) where
  pub text_even : {l : ℕ} {ts : List Placed} {e : Tree} → Spells l ts e → (p : ℕ) → walked (base o m p s) (toks ts) ≡ base o m p s
  text_even of_number p = refl
  text_even of_name p = refl
  text_even (of_group {ts = ts} z r) p =
      let back : p + 1 - 1 ≡ p = omega arith in
      ap (walked (base o m (p + 1) s)) (toks-append ts (tok z Close ∷ []))
      ∙ walked_both (base o m (p + 1) s) (toks ts) (Close ∷ [])
      ∙ ap (λ c. stepped c Close) (text_even r (p + 1))
      ∙ ap (λ n. base o m n s) back
  text_even (of_not r) p = text_even r p
  text_even (of_binary {xs = xs} {ys = ys} w op r q) p =
      ap (walked (base o m p s)) (toks-append xs (tok w (Infix op) ∷ ys))
      ∙ walked_both (base o m p s) (toks xs) (Infix op ∷ toks ys)
      ∙ ap (λ c. walked c (Infix op ∷ toks ys)) (text_even r p)
      ∙ text_even q p
  text_even (of_tighter r) p = text_even r p

  group_even : (g : Bool) (us : List Token) → ((p : ℕ) → walked (base o m p s) us ≡ base o m p s) → (p : ℕ) → walked (base o m p s) (grouped g us) ≡ base o m p s
  group_even false us h p = h p
  group_even true us h p =
      let back : p + 1 - 1 ≡ p = omega arith in
      walked_both (base o m (p + 1) s) us (Close ∷ []) ∙ ap (λ c. stepped c Close) (h (p + 1)) ∙ ap (λ n. base o m n s) back

  binary_even : (t : List Token) (u : List Token) (k : Token) → ((p : ℕ) → stepped (base o m p s) k ≡ base o m p s) → ((p : ℕ) → walked (base o m p s) t ≡ base o m p s) → ((p : ℕ) → walked (base o m p s) u ≡ base o m p s)
      → (p : ℕ) → walked (base o m p s) (t ++ k ∷ u) ≡ base o m p s
  binary_even t u k f h g p = walked_both (base o m p s) t (k ∷ u) ∙ ap (λ c. walked c (k ∷ u)) (h p) ∙ ap (λ c. walked c u) (f p) ∙ g p

  pub printed_even : (l : ℕ) (e : Tree) (p : ℕ) → walked (base o m p s) (printed l e) ≡ base o m p s
  printed_even l (number at n) p = refl
  printed_even l (name at own x) p = refl
  printed_even l (negation at e) p = group_even (nat_lt 2 l) (Not ∷ printed 3 e) (λ q. printed_even 3 e q) p
  printed_even l (binary at op a b) p =
      group_even (nat_lt (level op) l) (printed (left_level op) a ++ Infix op ∷ printed (suc (level op)) b)
      (binary_even (printed (left_level op) a) (printed (suc (level op)) b) (Infix op) (λ q. refl) (λ q. printed_even (left_level op) a q) (λ q. printed_even (suc (level op)) b q)) p

  ungrouped : (us : List Token) (p : ℕ) → Calm (base o m p s) (grouped true us) → Calm (base o m p s) us
  ungrouped us p h = lowered (base o m (p + 1) s) p us (omega arith) (calm_parts (base o m (p + 1) s) us (Close ∷ []) h.1).0

  group_calm : (us : List Token) (p : ℕ) → walked (base o m (p + 1) s) us ≡ base o m (p + 1) s → Allowed (base o m p s) Open → Calm (base o m (p + 1) s) us → Calm (base o m p s) (grouped true us)
  group_calm us p even a h =
      let close : Calm (base o m (p + 1) s) (Close ∷ []) = (record { large = refl; long = refl; count = refl; deep = refl; further = refl; op = refl }, tt) in
      (a, calm_both (base o m (p + 1) s) us (Close ∷ []) h (subst (λ c. Calm c (Close ∷ [])) (sym even) close))

  group_looser : (k l : ℕ) (us : List Token) (p : ℕ) → Calm (base o m p s) (grouped (nat_lt k (suc l)) us) → Calm (base o m p s) (grouped (nat_lt k l) us)
  group_looser k l us p =
      elim (cases_lt k l) [
        | inl lt ↦ rw (lt-ltb k l lt, lt-ltb k (suc l) (omega arith)) (λ h. h)
        | inr ge ↦ elim (cases_lt k (suc l)) [
          | inl here ↦ rw (le-ltb k l ge, lt-ltb k (suc l) here) (λ h. ungrouped us p h)
          | inr above ↦ rw (le-ltb k l ge, le-ltb k (suc l) above) (λ h. h)
        ]
      ]

  looser_calm : (l : ℕ) (e : Tree) (p : ℕ) → Calm (base o m p s) (printed (suc l) e) → Calm (base o m p s) (printed l e)
  looser_calm l (number at n) p h = h
  looser_calm l (name at own x) p h = h
  looser_calm l (negation at e) p h = group_looser 2 l (Not ∷ printed 3 e) p h
  looser_calm l (binary at op a b) p h = group_looser (level op) l (printed (left_level op) a ++ Infix op ∷ printed (suc (level op)) b) p h

  in_group : (e : Tree) (p : ℕ) → Allowed (base o m p s) Open → Calm (base o m (p + 1) s) (printed 0 e) → Calm (base o m p s) (printed 6 e)
  in_group (number at n) p a h = lowered (base o m (p + 1) s) p (Number n ∷ []) (omega arith) h
  in_group (name at own x) p a h = lowered (base o m (p + 1) s) p (Named x false ∷ []) (omega arith) h
  in_group (negation at e) p a h = group_calm (Not ∷ printed 3 e) p (printed_even 3 e (p + 1)) a h
  in_group (binary at op x y) p a h =
      let even = printed_even 0 (binary at op x y) (p + 1) in
      rw (lt-ltb (level op) 6 (left_bounds op).2) (opened (nat_lt (level op) 0) (le-ltb (level op) 0 (omega arith)) even h)
    where
      opened : (b : Bool) → b ≡ false → walked (base o m (p + 1) s) (grouped b (printed (left_level op) x ++ Infix op ∷ printed (suc (level op)) y)) ≡ base o m (p + 1) s
          → Calm (base o m (p + 1) s) (grouped b (printed (left_level op) x ++ Infix op ∷ printed (suc (level op)) y)) → Calm (base o m p s) (grouped true (printed (left_level op) x ++ Infix op ∷ printed (suc (level op)) y))
      opened true is even h = absurd cc
      opened false is even h = group_calm (printed (left_level op) x ++ Infix op ∷ printed (suc (level op)) y) p even a h

  pub expr_calm : {l : ℕ} {ts : List Placed} {e : Tree} → Spells l ts e → (p : ℕ) → Calm (base o m p s) (toks ts) → Calm (base o m p s) (printed l e)
  expr_calm of_number p h = h
  expr_calm of_name p h = (record { large = refl; long = refl; count = refl; deep = refl; further = refl; op = refl }, tt)
  expr_calm (of_group {w = w} {ts = ts} {e = e} z r) p h =
      let inner = (calm_parts (base o m (p + 1) s) (toks ts) (Close ∷ []) (subst (λ us. Calm (base o m (p + 1) s) us) (toks-append ts (tok z Close ∷ [])) h.1)).0 in
      rw (printed_begun 6 w.start e) (in_group e p h.0 (expr_calm r (p + 1) inner))
  expr_calm (of_not r) p h = (h.0, expr_calm r p h.1)
  expr_calm (of_binary {xs = xs} {ys = ys} {a = a} {b = b} w op r q) p h =
      let parts = calm_parts (base o m p s) (toks xs) (Infix op ∷ toks ys) (subst (λ us. Calm (base o m p s) us) (toks-append xs (tok w (Infix op) ∷ ys)) h) in
      let rest : Calm (base o m p s) (Infix op ∷ toks ys) = subst (λ c. Calm c (Infix op ∷ toks ys)) (text_even r p) parts.1 in
      let own : Calm (base o m p s) (Infix op ∷ printed (suc (level op)) b) = (rest.0, expr_calm q p rest.1) in
      rw (le-ltb (level op) (level op) (omega arith))
      (calm_both (base o m p s) (printed (left_level op) a) (Infix op ∷ printed (suc (level op)) b) (expr_calm r p parts.0) (subst (λ c. Calm c (Infix op ∷ printed (suc (level op)) b)) (sym (printed_even (left_level op) a p)) own))
  expr_calm (of_tighter {l = l} {e = e} r) p h = looser_calm l e p (expr_calm r p h)
