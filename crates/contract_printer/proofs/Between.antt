-- How long tokens are between what stands before and behind them.
use Rattle.std.proofs.Common.{◌≡◌, ℕ, ◌+◌, ◌≤◌, ◌&&◌, Bool, true, false, cond, List, [], ◌∷◌, ◌++◌, length, map, refl, ap, ◌∙◌, length-append, arith}
use Rattle.contract_grammar.specs.declared.token.Token.{Token}
use Rattle.contract_grammar.specs.declared.token.Placed.{Placed}
use Rattle.contract_printer.specs.Canonical.{is_word, space, token_text, text_behind}

-- the tokens without their places
abbrev pub toks : List Placed → List Token
toks ks = map (λ (k : Placed). k.token) ks

pub toks-append : (xs ys : List Placed) → toks (xs ++ ys) ≡ toks xs ++ toks ys
toks-append [] ys = refl
toks-append (x ∷ xs) ys = ap (λ ts. x.token ∷ ts) (toks-append xs ys)

abbrev pub one : Bool → ℕ
one b = cond b 1 0

-- how long the tokens are between a word or none before them and a word or none behind them
abbrev pub between : Bool → List Token → Bool → ℕ
between b [] c = one (b && c)
between b (t ∷ ts) c = one (b && is_word t) + (length (token_text t) + between (is_word t) ts c)

pub between-append : (b : Bool) (xs ys : List Token) (t : Token) (c : Bool) → between b (xs ++ t ∷ ys) c ≡ between b xs (is_word t) + (length (token_text t) + between (is_word t) ys c)
between-append b [] ys t c = refl
between-append b (x ∷ xs) ys t c = omega (arith, between-append (is_word x) xs ys t c)

one_le : (b : Bool) → one b ≤ 1
one_le true = omega arith
one_le false = omega arith

pub one_behind : (b c : Bool) → one (b && c) ≤ 1
one_behind b c = one_le (b && c)

-- words on both sides cost at most a space each
pub loose_ends : (b : Bool) (t : Token) (ts : List Token) (c : Bool) → between b (t ∷ ts) c ≤ between false (t ∷ ts) false + 2
loose_ends b t ts c = omega (arith, one_behind b (is_word t), behind_last t ts c)
  where
    behind_last : (t : Token) (ts : List Token) (c : Bool) → between (is_word t) ts c ≤ between (is_word t) ts false + 1
    behind_last t [] c = omega (arith, one_behind (is_word t) c)
    behind_last t (u ∷ ts) c = omega (arith, behind_last u ts c)

pub record Begins (ts : List Token) : Type 0 where
  pub first : Token
  pub rest : List Token
  pub is : ts ≡ first ∷ rest

pub loose : (b : Bool) (ts : List Token) (c : Bool) → Begins ts → between b ts c ≤ between false ts false + 2
loose b ts c p = rw p.is (loose_ends b p.first p.rest c)

pub and_false : (b : Bool) → (b && false) ≡ false
and_false true = refl
and_false false = refl

length-space : (b : Bool) → length (space b) ≡ one b
length-space true = refl
length-space false = refl

pub length-text : (b : Bool) (ts : List Token) → length (text_behind b ts) ≡ between b ts false
length-text true [] = refl
length-text false [] = refl
length-text b (t ∷ ts) =
    omega (arith, length-append (space (b && is_word t)) (token_text t ++ text_behind (is_word t) ts), length-append (token_text t) (text_behind (is_word t) ts), length-space (b && is_word t), length-text (is_word t) ts)

-- the last token is a word, or what stood before is
abbrev pub last_word : Bool → List Token → Bool
last_word b [] = b
last_word b (t ∷ ts) = last_word (is_word t) ts

pub last-append : (b : Bool) (xs ys : List Token) → last_word b (xs ++ ys) ≡ last_word (last_word b xs) ys
last-append b [] ys = refl
last-append b (x ∷ xs) ys = last-append (is_word x) xs ys

pub sum_between : (b : Bool) (xs ys : List Token) → last_word b xs ≡ false → between b (xs ++ ys) false ≡ between b xs false + between false ys false
sum_between b [] ys h = rw h (omega arith)
sum_between b (x ∷ xs) ys h = omega (arith, sum_between (is_word x) xs ys h)

-- the second tokens are no longer than the first ones; neither end with a word
pub record Shorter (ts us : List Token) : Type 0 where
  pub le : between false us false ≤ between false ts false
  pub ends : last_word false ts ≡ false
  pub also : last_word false us ≡ false

pub both_shorter : {ts us vs ws : List Token} → Shorter ts us → Shorter vs ws → Shorter (ts ++ vs) (us ++ ws)
both_shorter {ts} {us} {vs} {ws} h k = record {
  le = rw (sum_between false us ws h.also, sum_between false ts vs h.ends) (omega (arith, h.le, k.le));
  ends = last-append false ts vs ∙ rw h.ends k.ends;
  also = last-append false us ws ∙ rw h.also k.also;
}
