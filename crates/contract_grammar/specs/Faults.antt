-- Where a fault is.
use Rattle.std.specs.Prelude.{◌≡◌, ℕ, List, [], ◌∷◌, ◌++◌}
use Rattle.contract_grammar.specs.declared.token.Placed.{Placed}
use Rattle.contract_grammar.specs.Grammar.{Sentence, CanGoOn}
use Rattle.contract_grammar.specs.Limits.{IsLimit, IsWithinLimits}

-- the first fault is at this byte, and what is before it can be continued to a contract, but not with the token there, or the end
pub data IsSyntaxFault (ts : List Placed) (len at : ℕ) : Type 0 where
  at_token : (p : List Placed) (k : Placed) (rest : List Placed) → ts ≡ p ++ k ∷ rest → at ≡ k.span.start
      → IsWithinLimits p → CanGoOn p → (CanGoOn (p ++ k ∷ []) → ⊥) → IsSyntaxFault ts len at
  at_the_end : at ≡ len → IsWithinLimits ts → CanGoOn ts → (Sentence ts → ⊥) → IsSyntaxFault ts len at

-- the first fault is at this byte, and the token there can be there, but passes a limit
pub record IsLimitFault (ts : List Placed) (at : ℕ) : Type 0 where
  pub before : List Placed
  pub token : Placed
  pub rest : List Placed
  pub parts : ts ≡ before ++ token ∷ rest
  pub place : at ≡ token.span.start
  pub no_limit : IsWithinLimits before
  pub can_go_on : CanGoOn (before ++ token ∷ [])
  pub passed : IsLimit before token
