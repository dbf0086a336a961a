-- What holds of canonical texts.
use Rattle.std.specs.Prelude.{◌≡◌, ℕ, ◌≤◌, List, length, map}
use Rattle.contract_grammar.specs.declared.token.Placed.{Placed}
use Rattle.contract_grammar.specs.Lexer.{tokens}
use Rattle.oxii_defs.specs.Syntax.{Op}
use Rattle.contract_text.specs.TextMeaning.{IsContract}
use Rattle.contract_text.specs.TextFaults.{AreOneContract}
use Rattle.contract_printer.specs.Plain.{plain_op}
use Rattle.contract_printer.specs.Printed.{printed_ops}
use Rattle.contract_printer.specs.Canonical.{canonical}

-- texts that are one contract have one canonical text
abbrev pub ContractsHaveOneCanonicalText : Type 0
ContractsHaveOneCanonicalText = (text other : List ℕ) (ops ops' : List Op) → IsContract text ops → IsContract other ops' → AreOneContract text other → canonical ops ≡ canonical ops'

-- no text of a contract is shorter than its canonical text
abbrev pub CanonicalTextsAreShortest : Type 0
CanonicalTextsAreShortest = (ops : List Op) (other : List ℕ) → IsContract other ops → length (canonical ops) ≤ length other

-- the tokens of a canonical text are those that it was made of: no two neighbours glue
abbrev pub CanonicalTextsHaveTheirTokens : Type 0
CanonicalTextsHaveTheirTokens = (text : List ℕ) (ops : List Op) → IsContract text ops → map (λ (k : Placed). k.token) (tokens (canonical ops)) ≡ printed_ops (map plain_op ops)

-- the canonical text of a contract is a text of it: it spells the same operations, within the limits and without flaws
abbrev pub CanonicalTextsReadAsTheirContracts : Type 0
CanonicalTextsReadAsTheirContracts = (text : List ℕ) (ops : List Op) → IsContract text ops → IsContract (canonical ops) ops
