-- What the reader answers.
use Rattle.std.specs.Prelude.{◌≡◌, ℕ, List, length, Result, Ok, Err}
use Rattle.contract_reader.specs.declared.fault.ReadFault.{ReadFault}
use Rattle.contract_reader.specs.declared.fault.ReadFault.TheVariants as fault
use Rattle.contract_grammar.specs.declared.tree.Operation.{Operation}
use Rattle.contract_grammar.specs.Held.{operations}
use Rattle.contract_grammar.specs.Lexer.{tokens}
use Rattle.contract_grammar.specs.Faults.{IsSyntaxFault, IsLimitFault}
use Rattle.contract_grammar.specs.Reading.{Reading, reads, syntax_at, limit_at}

-- this reading, unless memory runs out
abbrev pub GivesReading : Result (List Operation) ReadFault → Reading → Type 0
GivesReading (Ok ops) r = r ≡ reads (operations ops)
GivesReading (Err (fault.Syntax at)) r = r ≡ syntax_at at
GivesReading (Err (fault.Limit at)) r = r ≡ limit_at at
GivesReading (Err fault.OutOfMemory) r = Unit {0}

-- the fault of a text that comes first
abbrev pub HasReadFault : List ℕ → ReadFault → Type 0
HasReadFault text (fault.Syntax at) = IsSyntaxFault (tokens text) (length text) at
HasReadFault text (fault.Limit at) = IsLimitFault (tokens text) at
HasReadFault text fault.OutOfMemory = Unit {0}
