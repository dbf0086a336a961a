-- Why a document is refused.
use Rattle.std.specs.Prelude.{◌≡◌, ◌⊎◌, ℕ, List}
use Rattle.doc_forms.specs.declared.fault.DocFault.{DocFault}
use Rattle.doc_forms.specs.declared.fault.DocFault.TheVariants as doc
use Rattle.input_doc.specs.FirstFaults.{IsFaultOf}

-- a reader of the whole document answers this fault, or that memory ran out
abbrev pub Refuses : List ℕ → DocFault → Type 0
Refuses bytes fault = (fault ≡ doc.OutOfMemory) ⊎ IsFaultOf bytes fault
