-- The tokens of a text as a relation: what lies after what, with no count of bytes to pass over.
use Rattle.std.specs.Prelude.{◌≡◌, ℕ, ◌+◌, true, false, List, [], ◌∷◌, drop}
use Rattle.contract_grammar.specs.declared.token.Placed.{Placed}
use Rattle.contract_grammar.specs.Lexer.{is_space, token_at, placed}

-- the tokens of bytes that begin at this byte of a text: spaces are between them, and each is as long as it can be
pub data AreTokens : ℕ → List ℕ → List Placed → Type 0 where
  no_more : {at : ℕ} → AreTokens at [] []
  behind_space : {at b : ℕ} {bs : List ℕ} {ks : List Placed} → is_space b ≡ true → AreTokens (at + 1) bs ks → AreTokens at (b ∷ bs) ks
  one_token : {at b : ℕ} {bs : List ℕ} {ks : List Placed} → is_space b ≡ false → AreTokens (at + (token_at (b ∷ bs)).1) (drop (token_at (b ∷ bs)).1 (b ∷ bs)) ks
      → AreTokens at (b ∷ bs) (placed at (token_at (b ∷ bs)) ∷ ks)
