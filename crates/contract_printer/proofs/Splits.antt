-- Tokens in their places, taken apart as the tokens are.
use Rattle.std.proofs.Common.{◌≡◌, List, [], ◌∷◌, ◌++◌, refl, sym, ap, ◌∙◌}
use Rattle.contract_grammar.specs.declared.token.Token.{Token}
use Rattle.contract_grammar.specs.declared.token.Extent.{Extent}
use Rattle.contract_grammar.specs.declared.token.Placed.{Placed}
use Rattle.contract_grammar.specs.Grammar.{tok}
use Rattle.contract_printer.proofs.Between.{toks}

pub record Cut (ks : List Placed) (xs ys : List Token) : Type 0 where
  pub left : List Placed
  pub right : List Placed
  pub is : ks ≡ left ++ right
  pub left_is : toks left ≡ xs
  pub right_is : toks right ≡ ys

-- the first one and the others
pub record Front (ks : List Placed) (t : Token) (ts : List Token) : Type 0 where
  pub place : Extent
  pub others : List Placed
  pub is : ks ≡ tok place t ∷ others
  pub others_is : toks others ≡ ts

abbrev cons : Token → List Token → List Token
cons t ts = t ∷ ts

first_same : (t u : Token) (ts us : List Token) → cons t ts ≡ cons u us → t ≡ u
first_same t u ts us h = cc

rest_same : (t u : Token) (ts us : List Token) → cons t ts ≡ cons u us → ts ≡ us
rest_same t u ts us h = cc

none_some : {A : Type 0} (t : Token) (ts : List Token) → ◌≡◌ {A = List Token} [] (cons t ts) → A
none_some t ts h = absurd cc

pub front : (ks : List Placed) (t : Token) (ts : List Token) → toks ks ≡ t ∷ ts → Front ks t ts
front [] t ts h = none_some t ts h
front (k ∷ ks) t ts h = record {
  place = k.span;
  others = ks;
  is = ap (λ (u : Token). tok k.span u ∷ ks) (first_same k.token t (toks ks) ts h);
  others_is = rest_same k.token t (toks ks) ts h;
}

pub cut : (xs ys : List Token) (ks : List Placed) → toks ks ≡ xs ++ ys → Cut ks xs ys
cut [] ys ks h = record { left = []; right = ks; is = refl; left_is = refl; right_is = h }
cut (x ∷ xs) ys [] h = none_some x (xs ++ ys) h
cut (x ∷ xs) ys (k ∷ ks) h =
    let more = cut xs ys ks (rest_same k.token x (toks ks) (xs ++ ys) h) in
    let same = first_same k.token x (toks ks) (xs ++ ys) h in
    record { left = k ∷ more.left; right = more.right; is = ap (λ (l : List Placed). k ∷ l) more.is; left_is = λ i. same i ∷ more.left_is i; right_is = more.right_is }

-- one alone
pub record Alone (ks : List Placed) (t : Token) : Type 0 where
  pub place : Extent
  pub is : ks ≡ tok place t ∷ []

empty : (ks : List Placed) → toks ks ≡ [] → ks ≡ []
empty [] h = refl
empty (k ∷ ks) h = none_some k.token (toks ks) (sym h)

pub nothing_is : (ks : List Placed) → toks ks ≡ [] → ks ≡ []
nothing_is = empty

pub alone : (ks : List Placed) (t : Token) → toks ks ≡ t ∷ [] → Alone ks t
alone ks t h = let f = front ks t [] h in record { place = f.place; is = f.is ∙ ap (λ (l : List Placed). tok f.place t ∷ l) (empty f.others f.others_is) }

-- some, and a last one
pub record Ended (ks : List Placed) (ts : List Token) (t : Token) : Type 0 where
  pub own : List Placed
  pub place : Extent
  pub is : ks ≡ own ++ tok place t ∷ []
  pub own_is : toks own ≡ ts

pub ended : (ks : List Placed) (ts : List Token) (t : Token) → toks ks ≡ ts ++ t ∷ [] → Ended ks ts t
ended ks ts t h =
    let c = cut ts (t ∷ []) ks h in
    let last = alone c.right t c.right_is in
    record { own = c.left; place = last.place; is = c.is ∙ ap (λ l. c.left ++ l) last.is; own_is = c.left_is }
