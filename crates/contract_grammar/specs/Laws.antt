-- What holds of the grammar and of readings.
use Rattle.std.specs.Prelude.{◌≡◌, ◌↔◌, ℕ, Bool, true, false, List, ◌∷◌, ◌++◌, count_by, length}
use Rattle.contract_grammar.specs.declared.token.Mark.TheVariants.{WordOp, Comma}
use Rattle.contract_grammar.specs.declared.token.Token.{Token}
use Rattle.contract_grammar.specs.declared.token.Token.TheVariants.{Fixed}
use Rattle.contract_grammar.specs.declared.token.Extent.{Extent}
use Rattle.contract_grammar.specs.declared.token.Placed.{Placed}
use Rattle.contract_grammar.specs.Tree.{Op}
use Rattle.contract_grammar.specs.Lexer.{tokens}
use Rattle.contract_grammar.specs.TokenLists.{AreTokens}
use Rattle.contract_grammar.specs.Grammar.{fixed, SpellsContract}
use Rattle.contract_grammar.specs.Limits.{tally}
use Rattle.contract_grammar.specs.Reading.{Reading, reading, ReadingMeans}

-- the tokens of a text are those that follow one another in it
abbrev pub TokensAreMeant : Type 0
TokensAreMeant = (text : List ℕ) (ts : List Placed) → (tokens text ≡ ts) ↔ AreTokens 0 text ts

-- a sentence has one tree
abbrev pub SentencesHaveOneTree : Type 0
SentencesHaveOneTree = (ts : List Placed) (os os' : List Op) → SpellsContract ts os → SpellsContract ts os' → os ≡ os'

-- the reading of a text is what the grammar, the limits and the positions of faults say
abbrev pub ReadingsAreMeant : Type 0
ReadingsAreMeant = (text : List ℕ) → ReadingMeans (tokens text) (length text) (reading text)

-- nothing else is said of a text: it is a contract within the limits with one tree, or has one first fault at one byte
abbrev pub ReadingsAreDetermined : Type 0
ReadingsAreDetermined = (text : List ℕ) (r : Reading) → ReadingMeans (tokens text) (length text) r → reading text ≡ r

abbrev pub is_op_token : Token → Bool
is_op_token (Fixed WordOp) = true
is_op_token _ = false

abbrev pub is_comma_token : Token → Bool
is_comma_token (Fixed Comma) = true
is_comma_token _ = false

-- how many `op`, and how many commas, some tokens have
abbrev pub op_count : List Placed → ℕ
op_count ts = count_by (λ (k : Placed). is_op_token k.token) ts

abbrev pub comma_count : List Placed → ℕ
comma_count ts = count_by (λ (k : Placed). is_comma_token k.token) ts

-- the tally has the number of operations, and of the last one its first byte and its commas
pub record IsTallied (ts : List Placed) : Type 0 where
  pub ops : (tally ts).ops ≡ op_count ts
  pub begun : (p rest : List Placed) (w : Extent) → ts ≡ p ++ fixed w WordOp ∷ rest → op_count rest ≡ 0 → (tally ts).begun ≡ w.start
  pub commas : (p rest : List Placed) (w : Extent) → ts ≡ p ++ fixed w WordOp ∷ rest → op_count rest ≡ 0 → (tally ts).commas ≡ comma_count rest

abbrev pub TalliesCount : Type 0
TalliesCount = (ts : List Placed) → IsTallied ts
