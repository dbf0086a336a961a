-- What a text comes to, as a total function of its bytes.
use Rattle.std.specs.Prelude.{◌≡◌, ℕ, List, map, Option, Some, None, Result, Ok, Err}
use Rattle.oxii_defs.specs.Syntax.{Op}
use Rattle.txn_core.specs.Meant.{op_of}
use Rattle.contract_grammar.specs.Tree as raw
use Rattle.contract_grammar.specs.Reading.{Reading, reads, syntax_at, limit_at, reading}
use Rattle.contract_text.specs.declared.flaws.FlawKind.TheVariants as kind
use Rattle.contract_text.specs.declared.flaws.Flaw.{Flaw}
use Rattle.contract_text.specs.declared.faults.Contract.{Contract}
use Rattle.contract_text.specs.declared.faults.TextFault.{TextFault}
use Rattle.contract_text.specs.declared.faults.TextFault.TheVariants as fault
use Rattle.contract_text.specs.Flaws.{flaw, first_flaw}
use Rattle.contract_text.specs.Typed.{typed_op}
use Rattle.contract_text.specs.TextFaults.{Verdict, accepted, syntax_fault, limit_fault, flawed}

-- the second pass, where the first one finds nothing
abbrev pub judged : Option Flaw → List raw.Op → Verdict
judged None os = accepted (map typed_op os)
judged (Some f) os = flawed f

abbrev pub told : Reading → Verdict
told (reads os) = judged (first_flaw os) os
told (syntax_at at) = syntax_fault at
told (limit_at at) = limit_fault at

-- the verdict on a text
unfoldable pub verdict : List ℕ → Verdict
verdict text = told (reading text)

-- this verdict, unless memory runs out
abbrev pub GivesVerdict : Result Contract TextFault → Verdict → Type 0
GivesVerdict (Ok contract) v = v ≡ accepted (map op_of contract.ops)
GivesVerdict (Err (fault.Syntax at)) v = v ≡ syntax_fault at
GivesVerdict (Err (fault.UnknownName at)) v = v ≡ flawed (flaw at kind.UnknownName)
GivesVerdict (Err (fault.Kind at)) v = v ≡ flawed (flaw at kind.Kind)
GivesVerdict (Err (fault.Limit at)) v = v ≡ limit_fault at
GivesVerdict (Err (fault.Double at)) v = v ≡ flawed (flaw at kind.Double)
GivesVerdict (Err fault.OutOfMemory) v = Unit {0}
