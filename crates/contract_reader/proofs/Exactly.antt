-- What an answer that gives the reading means.
use Rattle.std.proofs.Common.{◌≡◌, ℕ, List, length, Result, Ok, Err, IfOk, IfErr, subst}
use Rattle.contract_reader.specs.declared.fault.ReadFault.{ReadFault}
use Rattle.contract_reader.specs.declared.fault.ReadFault.TheVariants as fault
use Rattle.contract_grammar.specs.declared.tree.Operation.{Operation}
use Rattle.contract_grammar.specs.Held.{operations}
use Rattle.contract_grammar.specs.Lexer.{tokens}
use Rattle.contract_grammar.specs.Grammar.{SpellsContract}
use Rattle.contract_grammar.specs.Limits.{IsWithinLimits}
use Rattle.contract_grammar.specs.Reading.{Reading, reading, ReadingMeans}
use Rattle.contract_grammar.proofs.Meaning.{reading_means}
use Rattle.contract_reader.specs.Exact.{GivesReading, HasReadFault}

means : (text : List ℕ) (r : Reading) → reading text ≡ r → ReadingMeans (tokens text) (length text) r
means text r is = subst (λ v. ReadingMeans (tokens text) (length text) v) is (reading_means text)

pub contract_given : (text : List ℕ) (answer : Result (List Operation) ReadFault) → GivesReading answer (reading text) → IfOk answer (λ ops. SpellsContract (tokens text) (operations ops) × IsWithinLimits (tokens text))
contract_given text (Ok ops) h = means text _ h
contract_given text (Err f) h = tt

pub fault_given : (text : List ℕ) (answer : Result (List Operation) ReadFault) → GivesReading answer (reading text) → IfErr answer (HasReadFault text)
fault_given text (Ok ops) h = tt
fault_given text (Err (fault.Syntax at)) h = means text _ h
fault_given text (Err (fault.Limit at)) h = means text _ h
fault_given text (Err fault.OutOfMemory) h = tt
