-- No tokens that spell an expression are shorter than the printed ones.
use Rattle.std.proofs.Common.{◌≡◌, ℕ, suc, ◌+◌, ◌<◌, ◌≤◌, Bool, true, false, nat_lt, List, [], ◌∷◌, ◌++◌, refl, ap, inl, inr, arith}
use Rattle.std.proofs.lemmas.Bool.{cases_lt, le-ltb, lt-ltb}
use Rattle.contract_grammar.specs.declared.token.Operator.{Operator}
use Rattle.contract_grammar.specs.declared.token.Token.{Token}
use Rattle.contract_grammar.specs.declared.token.Token.TheVariants.{Number, Named, Infix, Not, Open, Close}
use Rattle.contract_grammar.specs.declared.token.Placed.{Placed}
use Rattle.contract_grammar.specs.Tree.{Tree, number, name, negation, binary, begun_at}
use Rattle.contract_grammar.specs.Grammar.{tok, level, left_level, Spells, of_number, of_name, of_group, of_not, of_binary, of_tighter}
use Rattle.contract_grammar.proofs.Expressions.{left_bounds}
use Rattle.contract_printer.specs.Canonical.{is_word}
use Rattle.contract_printer.specs.Printed.{grouped, printed}
use Rattle.contract_printer.proofs.Between.{toks, toks-append, between, between-append, loose_ends, Begins, loose, and_false}

abbrev inner : Operator → Tree → Tree → List Token
inner op a b = printed (left_level op) a ++ Infix op ∷ printed (suc (level op)) b

by_group : (g : Bool) (ts : List Token) → Begins ts → Begins (grouped g ts)
by_group true ts p = record { first = Open; rest = ts ++ Close ∷ []; is = refl }
by_group false ts p = p

inner_from : (op : Operator) (a b : Tree) → Begins (printed (left_level op) a) → Begins (inner op a b)
inner_from op a b p = record { first = p.first; rest = p.rest ++ Infix op ∷ printed (suc (level op)) b; is = ap (λ w. w ++ Infix op ∷ printed (suc (level op)) b) p.is }

begins : (l : ℕ) (e : Tree) → Begins (printed l e)
begins l (number at n) = record { first = Number n; rest = []; is = refl }
begins l (name at own x) = record { first = Named x false; rest = []; is = refl }
begins l (negation at e) = by_group (nat_lt 2 l) (Not ∷ printed 3 e) (record { first = Not; rest = printed 3 e; is = refl })
begins l (binary at op a b) = by_group (nat_lt (level op) l) (inner op a b) (inner_from op a b (begins (left_level op) a))

inner_begins : (op : Operator) (a b : Tree) → Begins (inner op a b)
inner_begins op a b = inner_from op a b (begins (left_level op) a)

in_group : (b : Bool) (ts : List Token) (c : Bool) → between b (Open ∷ (ts ++ Close ∷ [])) c ≡ between false ts false + 2
in_group b ts c = rw (and_false b) (omega (arith, between-append false ts [] Close c))

-- a tighter place costs no less
group_longer : (k l : ℕ) (ts : List Token) (b c : Bool) → Begins ts → between b (grouped (nat_lt k l) ts) c ≤ between b (grouped (nat_lt k (suc l)) ts) c
group_longer k l ts b c p =
    elim (cases_lt k l) [
      | inl lt ↦ rw (lt-ltb k l lt, lt-ltb k (suc l) (omega arith)) (omega arith)
      | inr ge ↦ elim (cases_lt k (suc l)) [
        | inl here ↦ rw (le-ltb k l ge, lt-ltb k (suc l) here) (rw (in_group b ts c) (loose b ts c p))
        | inr above ↦ rw (le-ltb k l ge, le-ltb k (suc l) above) (omega arith)
      ]
    ]

tighter_longer : (l : ℕ) (e : Tree) (b c : Bool) → between b (printed l e) c ≤ between b (printed (suc l) e) c
tighter_longer l (number at n) b c = omega arith
tighter_longer l (name at own x) b c = omega arith
tighter_longer l (negation at e) b c = group_longer 2 l (Not ∷ printed 3 e) b c (record { first = Not; rest = printed 3 e; is = refl })
tighter_longer l (binary at op x y) b c = group_longer (level op) l (inner op x y) b c (inner_begins op x y)

grouped_more : (k : ℕ) (ts : List Token) (b c : Bool) → k < 6 → between b (grouped (nat_lt k 6) ts) c ≤ between false (grouped (nat_lt k 0) ts) false + 2
grouped_more k ts b c lt = rw (lt-ltb k 6 lt, le-ltb k 0 (omega arith)) (rw (in_group b ts c) (omega arith))

two_more : (e : Tree) (b c : Bool) → between b (printed 6 e) c ≤ between false (printed 0 e) false + 2
two_more (number at n) b c = loose_ends b (Number n) [] c
two_more (name at own x) b c = loose_ends b (Named x false) [] c
two_more (negation at e) b c = grouped_more 2 (Not ∷ printed 3 e) b c (omega arith)
two_more (binary at op x y) b c = grouped_more (level op) (inner op x y) b c (left_bounds op).2

pub printed_begun : (l p : ℕ) (e : Tree) → printed l (begun_at p e) ≡ printed l e
printed_begun l p (number at n) = refl
printed_begun l p (name at own x) = refl
printed_begun l p (negation at e) = refl
printed_begun l p (binary at op a b) = refl

-- no tokens of the tree are shorter, whatever stands on their sides
pub shortest : {l : ℕ} {ts : List Placed} {e : Tree} → Spells l ts e → (b c : Bool) → between b (printed l e) c ≤ between b (toks ts) c
shortest of_number b c = omega arith
shortest of_name b c = omega arith
shortest (of_group {w = w} {ts = ts} {e = e} z r) b c =
    rw (printed_begun 6 w.start e, toks-append ts (tok z Close ∷ []), in_group b (toks ts) c) (omega (arith, two_more e b c, shortest r false false))
shortest (of_not r) b c = omega (arith, shortest r true c)
shortest (of_binary {xs = xs} {ys = ys} {a = x} {b = y} w op r q) b c =
    rw (le-ltb (level op) (level op) (omega arith), toks-append xs (tok w (Infix op) ∷ ys), between-append b (printed (left_level op) x) (printed (suc (level op)) y) (Infix op) c, between-append b (toks xs) (toks ys) (Infix op) c)
    (omega (arith, shortest r b (is_word (Infix op)), shortest q (is_word (Infix op)) c))
shortest (of_tighter {l = l} {e = e} r) b c = omega (arith, tighter_longer l e b c, shortest r b c)
