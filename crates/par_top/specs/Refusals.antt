-- Which commands read a document, and why there is no text of one.
use Rattle.std.specs.Prelude.{◌≡◌, ◌⊎◌, ℕ, List, Option, Result, Err}
use Rattle.par_io.specs.Causes.{Rose}
use Rattle.par_io.specs.Reading.{ReadWhole, ReadTooMuch, ReadWithin}
use Rattle.doc_forms.specs.declared.fault.Which.TheVariants as which
use Rattle.doc_forms.specs.declared.fault.DocFault.{DocFault}
use Rattle.doc_forms.specs.declared.fault.DocFault.TheVariants as fault
use Rattle.doc_forms.specs.Faults.{Fault}
use Rattle.doc_forms.specs.Check.{Fails}
use Rattle.input_doc.specs.Inputs.{Input}
use Rattle.input_doc.specs.FirstFaults.{IsFaultOf}
use Rattle.par_words.specs.declared.command.Command.{Command}
use Rattle.par_words.specs.declared.command.Command.TheVariants.{Run, Graph, Soak}
use Rattle.par_top.specs.declared.status.Status.{Status}
use Rattle.par_top.specs.declared.status.Status.TheVariants as status
use Rattle.par_top.specs.Headline.{document_limit}

-- the source failed, and gave no more than a document has before that
pub record IsReadFault (faults_old faults_new : ℕ) (rest_old rest_new : Option (List ℕ)) : Type 0 where
  pub rose : Rose faults_old faults_new
  pub within : ReadWithin rest_old rest_new document_limit

-- a document refused for this fault
abbrev pub refusal : Fault → Result Input Fault
refusal fault = Err fault

-- a command that reads a document
abbrev pub Reads : Command → Type 0
Reads (Run workers traced evident) = Unit {0}
Reads Graph = Unit {0}
Reads (Soak seed txns workers) = ⊥

-- the source was read to its end, and what it had has this fault
pub record IsFault (rest_old rest_new : Option (List ℕ)) (fault : DocFault) : Type 0 where
  pub bytes : List ℕ
  pub read : ReadWhole rest_old rest_new document_limit bytes
  pub is : IsFaultOf bytes fault

-- the fault of a document with more bytes than that
abbrev pub too_long : DocFault
too_long = fault.Limit which.Document document_limit

-- the source gave more than a document has
abbrev pub IsTooLong : Option (List ℕ) → Option (List ℕ) → DocFault → Type 0
IsTooLong rest_old rest_new f = (f ≡ too_long) × ReadTooMuch rest_old rest_new document_limit

-- why a document is refused: the source gave more than the limit, or what it had has this fault
abbrev pub IsRefusal : Option (List ℕ) → Option (List ℕ) → DocFault → Type 0
IsRefusal rest_old rest_new f = IsTooLong rest_old rest_new f ⊎ IsFault rest_old rest_new f

-- the status refuses for this fault of a document
abbrev pub IsRefusedFor : Status → Fault → Type 0
IsRefusedFor (status.Refused f) fault = Fails f (refusal fault)
IsRefusedFor _ fault = ⊥
