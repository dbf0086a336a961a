-- How far the tokens of a text lie apart.
use Rattle.std.proofs.Common.{◌≡◌, ℕ, zero, suc, ◌+◌, ◌-◌, ◌≤◌, ◌&&◌, Bool, true, false, List, [], ◌∷◌, ◌++◌, length, drop, refl, sym, ap, subst, arith, length-drop}
use Rattle.contract_grammar.specs.declared.token.Placed.{Placed}
use Rattle.contract_grammar.specs.Lexer.{is_space, is_name_byte, begins, token_at, lexed, tokens}
use Rattle.contract_grammar.specs.Limits.{begun_after, is_far}
use Rattle.contract_printer.specs.Canonical.{is_word, token_text}
use Rattle.contract_printer.proofs.Between.{toks, one, one_behind, between, and_false}
use Rattle.contract_printer.proofs.Tokens.{token_is}
use Rattle.contract_printer.proofs.Texts.{skips, no_space}

-- each token lies behind the one before it, with room for its bytes, and for a space between two words
abbrev pub Spaced : ℕ → Bool → List Placed → Type 0
Spaced at w [] = Unit {0}
Spaced at w (k ∷ ks) = (at + one (w && is_word k.token) ≤ k.span.start) × (k.span.start + length (token_text k.token) ≤ k.span.end) × Spaced k.span.end (is_word k.token) ks

behind_space : (at : ℕ) (w : Bool) (ks : List Placed) → Spaced (at + 1) false ks → Spaced at w ks
behind_space at w [] h = tt
behind_space at w (k ∷ ks) h = (omega (arith, h.0, one_behind w (is_word k.token)), h.1, h.2)

lexed_spaced : (n at : ℕ) (bs : List ℕ) (w : Bool) → length bs ≤ n → (w ≡ true → begins is_name_byte bs ≡ false) → Spaced at w (lexed at 0 bs)
unfolding lexed
lexed_spaced n at [] w le h = tt
lexed_spaced zero at (b ∷ bs) w le h = absurd (omega arith)
lexed_spaced (suc n) at (b ∷ bs) w le h = by (is_space b) refl (lexed_spaced n)
  where
    by : (s : Bool) → is_space b ≡ s → ((at : ℕ) (bs : List ℕ) (w : Bool) → length bs ≤ n → (w ≡ true → begins is_name_byte bs ≡ false) → Spaced at w (lexed at 0 bs)) → Spaced at w (lexed at 0 (b ∷ bs))
    by true is again = rw is (behind_space at w (lexed (at + 1) 0 bs) (again (at + 1) bs false (omega arith) (λ other. absurd cc)))
    by false is again =
        let read = token_at (b ∷ bs) in
        let here = token_is b bs in
        let cut : suc (read.1 - 1) ≡ read.1 = omega (arith, here.some) in
        let place : at + 1 + (read.1 - 1) ≡ at + read.1 = omega (arith, here.some) in
        let ends : is_word read.0 ≡ true → begins is_name_byte (drop (read.1 - 1) bs) ≡ false = λ word. subst (λ k. begins is_name_byte (drop k (b ∷ bs)) ≡ false) (sym cut) (here.ends word) in
        let rest = again (at + 1 + (read.1 - 1)) (drop (read.1 - 1) bs) (is_word read.0) (omega (arith, length-drop (read.1 - 1) bs)) ends in
        rw (is, skips (read.1 - 1) (at + 1) bs)
        (omega (arith, no_space w (is_word read.0) (λ word. here.apart (h word))), omega (arith, here.text), subst (λ a. Spaced a (is_word read.0) (lexed (at + 1 + (read.1 - 1)) 0 (drop (read.1 - 1) bs))) place rest)

pub tokens_spaced : (text : List ℕ) → Spaced 0 false (tokens text)
tokens_spaced text = lexed_spaced (length text) 0 text false (omega arith) (λ h. absurd cc)

-- what tokens take up to the end of the last one
pub spaced_end : (ks : List Placed) (z : Placed) (at : ℕ) (w : Bool) → Spaced at w (ks ++ z ∷ []) → at + between w (toks (ks ++ z ∷ [])) false ≤ z.span.end
spaced_end [] z at w h = omega (arith, h.0, h.1, ap one (and_false (is_word z.token)))
spaced_end (k ∷ ks) z at w h = omega (arith, h.0, h.1, spaced_end ks z k.span.end (is_word k.token) h.2)

-- the second part of tokens
pub record Later (ks : List Placed) : Type 0 where
  pub at : ℕ
  pub word : Bool
  pub spaced : Spaced at word ks

pub spaced_parts : (xs ys : List Placed) (at : ℕ) (w : Bool) → Spaced at w (xs ++ ys) → Spaced at w xs × Later ys
spaced_parts [] ys at w h = (tt, record { at = at; word = w; spaced = h })
spaced_parts (x ∷ xs) ys at w h = let r = spaced_parts xs ys x.span.end (is_word x.token) h.2 in ((h.0, h.1, r.0), r.1)

-- no token ends too far behind the first byte of its operation
abbrev pub Near : ℕ → List Placed → Type 0
Near b [] = Unit {0}
Near b (k ∷ ks) = (is_far b k ≡ false) × Near (begun_after b k.span.start k.token) ks

pub record LaterNear (ks : List Placed) : Type 0 where
  pub begun : ℕ
  pub near : Near begun ks

pub near_parts : (xs ys : List Placed) (b : ℕ) → Near b (xs ++ ys) → Near b xs × LaterNear ys
near_parts [] ys b h = (tt, record { begun = b; near = h })
near_parts (x ∷ xs) ys b h = let r = near_parts xs ys (begun_after b x.span.start x.token) h.1 in ((h.0, r.0), r.1)
