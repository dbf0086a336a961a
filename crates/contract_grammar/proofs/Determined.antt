-- A text has one reading.
use Rattle.std.proofs.Common.{◌≡◌, ℕ, List, [], ◌∷◌, ◌++◌, length, refl, sym, ap, subst, ◌∙◌, ◌⊎◌, inl, inr, append_assoc}
use Rattle.std.proofs.lemmas.List.{append-nil}
use Rattle.contract_grammar.specs.declared.token.Placed.{Placed}
use Rattle.contract_grammar.specs.Tree.{Op}
use Rattle.contract_grammar.specs.Grammar.{SpellsContract, Sentence, CanGoOn}
use Rattle.contract_grammar.specs.Lexer.{tokens}
use Rattle.contract_grammar.specs.Limits.{IsLimit, IsWithinLimits}
use Rattle.contract_grammar.specs.Faults.{at_token, at_the_end}
use Rattle.contract_grammar.specs.Reading.{Reading, reads, syntax_at, limit_at, reading, ReadingMeans}
use Rattle.contract_grammar.proofs.GoesOn.{one_tree}
use Rattle.contract_grammar.proofs.Meaning.{reading_means}

-- of two items of a list, which comes first
data Order (p q : List Placed) (k m : Placed) : Type 0 where
  same : p ≡ q → k ≡ m → Order p q k m
  earlier : (rest : List Placed) → q ≡ p ++ k ∷ rest → Order p q k m
  later : (rest : List Placed) → p ≡ q ++ m ∷ rest → Order p q k m

order : (p q r s : List Placed) (k m : Placed) → p ++ k ∷ r ≡ q ++ m ∷ s → Order p q k m
order [] [] r s k m h = let is : k ≡ m = cc in same refl is
order [] (y ∷ q) r s k m h = let is : y ≡ k = cc in earlier q (rw is refl)
order (x ∷ p) [] r s k m h = let is : x ≡ m = cc in later p (rw is refl)
order (x ∷ p) (y ∷ q) r s k m h =
    let tails : p ++ k ∷ r ≡ q ++ m ∷ s = cc in
    let heads : x ≡ y = cc in
    elim (order p q r s k m tails) [
      | same is last ↦ same (rw (heads, is) refl) last
      | earlier more is ↦ earlier more (rw (heads, is) refl)
      | later more is ↦ later more (rw (heads, is) refl)
    ]

-- the whole text can go on, within the limits
record Whole (ts : List Placed) (len : ℕ) (r : Reading) : Type 0 where
  within : IsWithinLimits ts
  goes_on : CanGoOn ts
  answer : ((os : List Op) × (r ≡ reads os) × SpellsContract ts os) ⊎ ((r ≡ syntax_at len) × (Sentence ts → ⊥))

-- a token is the first one that can't stand there, or passes a limit
record Stop (ts : List Placed) (r : Reading) : Type 0 where
  before : List Placed
  token : Placed
  rest : List Placed
  parts : ts ≡ before ++ token ∷ rest
  within : IsWithinLimits before
  goes_on : CanGoOn before
  answer : ((r ≡ syntax_at token.span.start) × (CanGoOn (before ++ token ∷ []) → ⊥)) ⊎ ((r ≡ limit_at token.span.start) × CanGoOn (before ++ token ∷ []) × IsLimit before token)

shorter : (p extra : List Placed) → CanGoOn (p ++ extra) → CanGoOn p
shorter p extra g = (extra ++ g.0, (g.1.0, rw (append_assoc p extra g.0) at g.1.1))

outcome : (ts : List Placed) (len : ℕ) (r : Reading) → ReadingMeans ts len r → Whole ts len r ⊎ Stop ts r
outcome ts len (reads os) h = inl (record { within = h.1; goes_on = ([], (os, rw append-nil h.0)); answer = inl (os, refl, h.0) })
outcome ts len (syntax_at at) (at_token p k rest parts place within goes stops) = inr (record { before = p; token = k; rest = rest; parts = parts; within = within; goes_on = goes; answer = inl (ap (λ n. syntax_at n) place, stops) })
outcome ts len (syntax_at at) (at_the_end place within goes stops) = inl (record { within = within; goes_on = goes; answer = inr (ap (λ n. syntax_at n) place, stops) })
outcome ts len (limit_at at) h = inr (record {
  before = h.before;
  token = h.token;
  rest = h.rest;
  parts = h.parts;
  within = h.no_limit;
  goes_on = shorter h.before (h.token ∷ []) h.can_go_on;
  answer = inr (ap (λ n. limit_at n) h.place, h.can_go_on, h.passed);
})

-- no stop stands inside what can go on within the limits
passed : {A : Type 0} (q rest : List Placed) (ts : List Placed) (r : Reading) → CanGoOn q → IsWithinLimits q → (s : Stop ts r) → q ≡ s.before ++ s.token ∷ rest → A
passed {A} q rest ts r goes within s is = elim s.answer as (λ _. A) [
  | inl a ↦ absurd (a.1 (shorter (s.before ++ s.token ∷ []) rest (rw (append_assoc s.before (s.token ∷ []) rest) (rw is at goes))))
  | inr a ↦ absurd (within s.before s.token rest is a.2)
]

same_whole : (ts : List Placed) (len : ℕ) (r r' : Reading) → Whole ts len r → Whole ts len r' → r ≡ r'
same_whole ts len r r' a b = elim a.answer [
  | inl x ↦ elim b.answer [
    | inl y ↦ x.1 ∙ ap (λ os. reads os) (one_tree ts x.0 y.0 x.2 y.2) ∙ sym y.1
    | inr y ↦ absurd (y.1 (x.0, x.2))
  ]
  | inr x ↦ elim b.answer [
    | inl y ↦ absurd (x.1 (y.0, y.2))
    | inr y ↦ x.0 ∙ sym y.0
  ]
]

same_token : (ts : List Placed) (r r' : Reading) (a : Stop ts r) (b : Stop ts r') → a.before ≡ b.before → a.token ≡ b.token → r ≡ r'
same_token ts r r' a b lists last =
    let goes : CanGoOn (a.before ++ a.token ∷ []) → CanGoOn (b.before ++ b.token ∷ []) = λ g. subst (λ p. CanGoOn (p ++ b.token ∷ [])) lists (subst (λ k. CanGoOn (a.before ++ k ∷ [])) last g) in
    let back : CanGoOn (b.before ++ b.token ∷ []) → CanGoOn (a.before ++ a.token ∷ []) = λ g. subst (λ p. CanGoOn (p ++ a.token ∷ [])) (sym lists) (subst (λ k. CanGoOn (b.before ++ k ∷ [])) (sym last) g) in
    elim a.answer [
      | inl x ↦ elim b.answer [
        | inl y ↦ x.0 ∙ ap (λ (k : Placed). syntax_at k.span.start) last ∙ sym y.0
        | inr y ↦ absurd (x.1 (back y.1))
      ]
      | inr x ↦ elim b.answer [
        | inl y ↦ absurd (y.1 (goes x.1))
        | inr y ↦ x.0 ∙ ap (λ (k : Placed). limit_at k.span.start) last ∙ sym y.0
      ]
    ]

same_stop : (ts : List Placed) (r r' : Reading) → Stop ts r → Stop ts r' → r ≡ r'
same_stop ts r r' a b = elim (order a.before b.before a.rest b.rest a.token b.token (sym a.parts ∙ b.parts)) [
  | same lists last ↦ same_token ts r r' a b lists last
  | earlier more is ↦ passed b.before more ts r b.goes_on b.within a is
  | later more is ↦ passed a.before more ts r' a.goes_on a.within b is
]

-- a text's tokens mean one reading
pub one_meaning : (ts : List Placed) (len : ℕ) (r r' : Reading) → ReadingMeans ts len r → ReadingMeans ts len r' → r ≡ r'
one_meaning ts len r r' h h' = elim (outcome ts len r h) [
  | inl a ↦ elim (outcome ts len r' h') [
    | inl b ↦ same_whole ts len r r' a b
    | inr b ↦ passed ts b.rest ts r' a.goes_on a.within b b.parts
  ]
  | inr a ↦ elim (outcome ts len r' h') [
    | inl b ↦ passed ts a.rest ts r b.goes_on b.within a a.parts
    | inr b ↦ same_stop ts r r' a b
  ]
]

pub reading_is : (text : List ℕ) (r : Reading) → ReadingMeans (tokens text) (length text) r → reading text ≡ r
reading_is text r h = one_meaning (tokens text) (length text) (reading text) r (reading_means text) h
