-- Of meaning and fault there is exactly one, and what is meant is lawful.
use Rattle.std.proofs.Common.{◌≡◌, ◌⊎◌, ℕ, List, Result, Ok, Err, refl, sym, ◌∙◌, inl, inr}
use Rattle.doc_forms.specs.Faults.{Fault}
use Rattle.input_doc.specs.Inputs.{Input}
use Rattle.contract_text.specs.Verdict.{verdict}
use Rattle.input_doc.specs.Reading.{reading}
use Rattle.input_doc.specs.Means.{Means}
use Rattle.input_doc.specs.ExactlyOne.{ExactlyOne}
use Rattle.input_doc.specs.FirstFaults.{HasFault}
use Rattle.input_doc.proofs.Judges.{fault_read, has_fault}
use Rattle.input_doc.proofs.Whole.{reading_means, reading_reads, reading_is_lawful}

abbrev read_as : Input → Result Input Fault
read_as input = Ok input

abbrev refused_as : Fault → Result Input Fault
refused_as fault = Err fault

same_input : (input other : Input) → read_as input ≡ read_as other → input ≡ other
same_input input other h = cc

same_fault : (fault other : Fault) → refused_as fault ≡ refused_as other → fault ≡ other
same_fault fault other h = cc

not_both : (input : Input) (fault : Fault) → read_as input ≡ refused_as fault → ⊥
not_both input fault h = cc

one_of : (bytes : List ℕ) (told : Result Input Fault) → reading verdict bytes ≡ told → ((input : Input) × Means bytes input) ⊎ ((fault : Fault) × HasFault bytes fault)
one_of bytes (Ok input) is = inl (input, reading_means bytes input is)
one_of bytes (Err fault) is = inr (fault, has_fault bytes fault is)

pub exactly_one : (bytes : List ℕ) → ExactlyOne bytes
exactly_one bytes = record {
  one = one_of bytes (reading verdict bytes) refl;
  not_both = λ input fault means is. not_both input fault (sym (reading_reads bytes input means) ∙ fault_read bytes fault is);
  one_meaning = λ input other means also. same_input input other (sym (reading_reads bytes input means) ∙ reading_reads bytes other also);
  one_fault = λ fault other is also. same_fault fault other (sym (fault_read bytes fault is) ∙ fault_read bytes other also);
  lawful = λ input means. reading_is_lawful bytes input (reading_reads bytes input means);
}
