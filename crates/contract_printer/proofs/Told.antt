-- The printed tokens of a tree spell it, but for the bytes, wherever they stand.
use Rattle.std.proofs.Common.{◌≡◌, ℕ, suc, ◌≤◌, false, nat_lt, List, [], ◌∷◌, ◌++◌, refl, ap, ◌∙◌, inl, inr, arith}
use Rattle.std.proofs.lemmas.Bool.{cases_lt, le-ltb, lt-ltb}
use Rattle.contract_grammar.specs.declared.token.Operator.{Operator}
use Rattle.contract_grammar.specs.declared.token.Token.{Token}
use Rattle.contract_grammar.specs.declared.token.Token.TheVariants.{Number, Named, Infix, Not, Open, Close}
use Rattle.contract_grammar.specs.declared.token.Placed.{Placed}
use Rattle.contract_grammar.specs.Tree.{Tree, number, name, negation, binary, first, begun_at}
use Rattle.contract_grammar.specs.Grammar.{tok, level, left_level, Spells, of_number, of_name, of_group, of_not, of_binary}
use Rattle.contract_grammar.proofs.Expressions.{left_bounds}
use Rattle.contract_grammar.proofs.Spelled.{loosened}
use Rattle.contract_printer.specs.Printed.{grouped, printed}
use Rattle.contract_printer.proofs.Bare.{bare}
use Rattle.contract_printer.proofs.Between.{toks}
use Rattle.contract_printer.proofs.Splits.{front, cut, alone, ended}

-- the tokens spell this tree, but for the bytes
pub record Told (l : ℕ) (ks : List Placed) (e : Tree) : Type 0 where
  pub tree : Tree
  pub spells : Spells l ks tree
  pub same : bare tree ≡ bare e

looser : (l m : ℕ) (ks : List Placed) (e : Tree) → l ≤ m → Told m ks e → Told l ks e
looser l m ks e le t = record { tree = t.tree; spells = loosened l m le t.spells; same = t.same }

bare_begun : (p : ℕ) (e : Tree) → bare (begun_at p e) ≡ bare e
bare_begun p (number at n) = refl
bare_begun p (name at own x) = refl
bare_begun p (negation at e) = refl
bare_begun p (binary at op a b) = refl

in_parens : (k l : ℕ) (ts : List Token) (e : Tree) → l ≤ 6 → ((ks : List Placed) → toks ks ≡ ts → Told k ks e) → (ks : List Placed) → toks ks ≡ Open ∷ (ts ++ Close ∷ []) → Told l ks e
in_parens k l ts e le inside ks h =
    let f = front ks Open (ts ++ Close ∷ []) h in
    let r = ended f.others ts Close f.others_is in
    let t = inside r.own r.own_is in
    let is : ks ≡ tok f.place Open ∷ (r.own ++ tok r.place Close ∷ []) = f.is ∙ ap (λ (x : List Placed). tok f.place Open ∷ x) r.is in
    rw is (record { tree = begun_at f.place.start t.tree; spells = loosened l 6 le (of_group r.place (loosened 0 k (omega arith) t.spells)); same = bare_begun f.place.start t.tree ∙ t.same })

grouped_told : (k l : ℕ) (ts : List Token) (e : Tree) → l ≤ 6 → ((ks : List Placed) → toks ks ≡ ts → Told k ks e) → (ks : List Placed) → toks ks ≡ grouped (nat_lt k l) ts → Told l ks e
grouped_told k l ts e le inside ks h =
    elim (cases_lt k l) [
      | inl lt ↦ in_parens k l ts e le inside ks (h ∙ ap (λ b. grouped b ts) (lt-ltb k l lt))
      | inr ge ↦ looser l k ks e ge (inside ks (h ∙ ap (λ b. grouped b ts) (le-ltb k l ge)))
    ]

not_told : (at : ℕ) (e : Tree) → ((ks : List Placed) → toks ks ≡ printed 3 e → Told 3 ks e) → (ks : List Placed) → toks ks ≡ Not ∷ printed 3 e → Told 2 ks (negation at e)
not_told at e inside ks h =
    let f = front ks Not (printed 3 e) h in
    let t = inside f.others f.others_is in
    rw f.is (record { tree = negation f.place.start t.tree; spells = of_not t.spells; same = ap (negation 0) t.same })

binary_told : (at : ℕ) (op : Operator) (a b : Tree) → ((ks : List Placed) → toks ks ≡ printed (left_level op) a → Told (left_level op) ks a) → ((ks : List Placed) → toks ks ≡ printed (suc (level op)) b → Told (suc (level op)) ks b)
    → (ks : List Placed) → toks ks ≡ printed (left_level op) a ++ Infix op ∷ printed (suc (level op)) b → Told (level op) ks (binary at op a b)
binary_told at op a b left right ks h =
    let c = cut (printed (left_level op) a) (Infix op ∷ printed (suc (level op)) b) ks h in
    let f = front c.right (Infix op) (printed (suc (level op)) b) c.right_is in
    let x = left c.left c.left_is in
    let y = right f.others f.others_is in
    let is : ks ≡ c.left ++ tok f.place (Infix op) ∷ f.others = c.is ∙ ap (λ l. c.left ++ l) f.is in
    rw is (record { tree = binary (first x.tree) op x.tree y.tree; spells = of_binary f.place op x.spells y.spells; same = λ i. binary 0 op (x.same i) (y.same i) })

pub told : (l : ℕ) (e : Tree) → l ≤ 6 → (ks : List Placed) → toks ks ≡ printed l e → Told l ks e
told l (number at n) le ks h = let a = alone ks (Number n) h in rw a.is (record { tree = number a.place.start n; spells = loosened l 6 le of_number; same = refl })
told l (name at own x) le ks h = let a = alone ks (Named x false) h in rw a.is (record { tree = name a.place.start a.place.start x; spells = loosened l 6 le of_name; same = refl })
told l (negation at e) le ks h = grouped_told 2 l (Not ∷ printed 3 e) (negation at e) le (not_told at e (told 3 e (omega arith))) ks h
told l (binary at op a b) le ks h =
    let bounds = left_bounds op in
    grouped_told (level op) l (printed (left_level op) a ++ Infix op ∷ printed (suc (level op)) b) (binary at op a b) le
    (binary_told at op a b (told (left_level op) a (omega (arith, bounds.1, bounds.2))) (told (suc (level op)) b (omega (arith, bounds.2)))) ks h
