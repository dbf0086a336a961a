-- When the bytes of a document have a fault.
use Rattle.std.specs.Prelude.{◌≡◌, ℕ, List, Err}
use Rattle.contract_text.specs.TextFaults.{Judge, IsJudge}
use Rattle.doc_forms.specs.declared.fault.DocFault.{DocFault}
use Rattle.doc_forms.specs.declared.fault.DocFault.TheVariants as doc
use Rattle.doc_forms.specs.Faults.{Fault}
use Rattle.doc_forms.specs.Check.{Fails}
use Rattle.input_doc.specs.Reading.{reading}

-- the first fault of the bytes, in the order of the checks; what each contract's text comes to, the grammar, the limits and the flaws decide
abbrev pub HasFault : List ℕ → Fault → Type 0
HasFault bytes fault = (judge : Judge) × IsJudge judge × (reading judge bytes ≡ Err fault)

-- a reader's fault is that of the bytes, and none of memory
abbrev pub IsFaultOf : List ℕ → DocFault → Type 0
IsFaultOf bytes doc.OutOfMemory = ⊥
IsFaultOf bytes fault = (judge : Judge) × IsJudge judge × Fails fault (reading judge bytes)
