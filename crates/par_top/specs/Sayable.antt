-- Which statuses can be answered.
use Rattle.contract_text.specs.declared.faults.TextFault.{TextFault}
use Rattle.contract_text.specs.declared.faults.TextFault.TheVariants as text
use Rattle.doc_forms.specs.declared.fault.DocFault.{DocFault}
use Rattle.doc_forms.specs.declared.fault.DocFault.TheVariants as fault
use Rattle.par_top.specs.declared.status.Status.{Status}
use Rattle.par_top.specs.declared.status.Status.TheVariants.{Refused, OutOfMemory}

-- a fault of a contract's text, and not want of memory
abbrev pub CanTell : TextFault → Type 0
CanTell text.OutOfMemory = ⊥
CanTell _ = Unit {0}

-- a fault of a document, and not want of memory
abbrev pub CanBeSaid : DocFault → Type 0
CanBeSaid fault.OutOfMemory = ⊥
CanBeSaid (fault.Contract app f) = CanTell f
CanBeSaid _ = Unit {0}

abbrev pub CanSay : Status → Type 0
CanSay (Refused f) = CanBeSaid f
CanSay _ = Unit {0}
