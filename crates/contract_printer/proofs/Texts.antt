-- A text is no shorter than the text of its tokens.
use Rattle.std.proofs.Common.{◌≡◌, ℕ, zero, suc, ◌+◌, ◌-◌, ◌≤◌, ◌&&◌, Bool, true, false, List, [], ◌∷◌, length, drop, refl, sym, ap, ◌∙◌, subst, arith, length-drop}
use Rattle.contract_grammar.specs.declared.token.Token.{Token}
use Rattle.contract_grammar.specs.Lexer.{is_space, is_name_byte, begins, token_at, lexed, tokens}
use Rattle.contract_printer.specs.Canonical.{is_word, token_text, text_of}
use Rattle.contract_printer.proofs.Between.{toks, one, between, length-text}
use Rattle.contract_printer.proofs.Tokens.{token_is}

-- skipped bytes are dropped
pub skips : (k at : ℕ) (bs : List ℕ) → lexed at k bs ≡ lexed (at + k) 0 (drop k bs)
unfolding lexed
skips zero at [] = refl
skips zero at (b ∷ bs) = let is : at + 0 ≡ at = omega arith in ap (λ a. lexed a 0 (b ∷ bs)) (sym is)
skips (suc k) at [] = refl
skips (suc k) at (b ∷ bs) = let is : at + 1 + k ≡ at + suc k = omega arith in skips k (at + 1) bs ∙ ap (λ a. lexed a 0 (drop k bs)) is

behind_word : (w : Bool) (ts : List Token) → between w ts false ≤ between false ts false + 1
behind_word true [] = omega arith
behind_word false ts = omega arith
behind_word true (t ∷ ts) = by (is_word t)
  where
    by : (v : Bool) → one (true && v) + (length (token_text t) + between (is_word t) ts false) ≤ one (false && v) + (length (token_text t) + between (is_word t) ts false) + 1
    by true = omega arith
    by false = omega arith

-- no space between a word and a token that is no word
pub no_space : (w v : Bool) → (w ≡ true → v ≡ false) → one (w && v) ≡ 0
no_space true v h = rw (h refl) refl
no_space false v h = refl

no_longer : (n at : ℕ) (bs : List ℕ) (w : Bool) → length bs ≤ n → (w ≡ true → begins is_name_byte bs ≡ false) → between w (toks (lexed at 0 bs)) false ≤ length bs
unfolding lexed
no_longer n at [] true le h = omega arith
no_longer n at [] false le h = omega arith
no_longer zero at (b ∷ bs) w le h = absurd (omega arith)
no_longer (suc n) at (b ∷ bs) w le h = by (is_space b) refl (no_longer n)
  where
    by : (s : Bool) → is_space b ≡ s → ((at : ℕ) (bs : List ℕ) (w : Bool) → length bs ≤ n → (w ≡ true → begins is_name_byte bs ≡ false) → between w (toks (lexed at 0 bs)) false ≤ length bs)
        → between w (toks (lexed at 0 (b ∷ bs))) false ≤ length (b ∷ bs)
    by true is again =
        let rest = again (at + 1) bs false (omega arith) (λ other. absurd cc) in
        rw is (omega (arith, behind_word w (toks (lexed (at + 1) 0 bs)), rest))
    by false is again =
        let read = token_at (b ∷ bs) in
        let here = token_is b bs in
        let cut : suc (read.1 - 1) ≡ read.1 = omega (arith, here.some) in
        let ends : is_word read.0 ≡ true → begins is_name_byte (drop (read.1 - 1) bs) ≡ false = λ word. subst (λ k. begins is_name_byte (drop k (b ∷ bs)) ≡ false) (sym cut) (here.ends word) in
        let rest = again (at + 1 + (read.1 - 1)) (drop (read.1 - 1) bs) (is_word read.0) (omega (arith, length-drop (read.1 - 1) bs)) ends in
        rw (is, skips (read.1 - 1) (at + 1) bs)
        (omega (arith, no_space w (is_word read.0) (λ word. here.apart (h word)), here.text, here.some, here.room, rest, length-drop (read.1 - 1) bs))

pub texts_are_longer : (text : List ℕ) → length (text_of (toks (tokens text))) ≤ length text
texts_are_longer text = rw (length-text false (toks (tokens text))) (no_longer (length text) 0 text false (omega arith) (λ h. absurd cc))
