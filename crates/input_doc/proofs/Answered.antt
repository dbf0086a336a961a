-- What a reader answers, in the words of the public call.
use Rattle.std.proofs.Common.{◌≡◌, ◌⊎◌, ℕ, List, Result, Ok, Err, inl, inr, refl}
use Rattle.std.specs.Prelude.{IfOk, IfErr}
use Rattle.contract_text.specs.Verdict.{verdict}
use Rattle.doc_forms.specs.declared.fault.DocFault.{DocFault}
use Rattle.doc_forms.specs.declared.fault.DocFault.TheVariants as doc
use Rattle.doc_forms.specs.Check.{Fails}
use Rattle.doc_forms.specs.Answers.{Gives}
use Rattle.input_doc.specs.declared.input.Input.{Input}
use Rattle.input_doc.specs.LawfulInputs.{IsLawfulInput}
use Rattle.input_doc.specs.Held.{input_of}
use Rattle.input_doc.specs.Reading.{reading}
use Rattle.input_doc.specs.Means.{Means}
use Rattle.input_doc.specs.FirstFaults.{IsFaultOf}
use Rattle.input_doc.proofs.Judges.{verdict_judges}
use Rattle.input_doc.proofs.Whole.{reading_means, reading_is_lawful}

fault_told : (bytes : List ℕ) (f : DocFault) → Fails f (reading verdict bytes) → (f ≡ doc.OutOfMemory) ⊎ IsFaultOf bytes f
fault_told bytes doc.NotJson h = inr (verdict, verdict_judges, h)
fault_told bytes (doc.Field path) h = inr (verdict, verdict_judges, h)
fault_told bytes (doc.Limit which limit) h = inr (verdict, verdict_judges, h)
fault_told bytes (doc.Contract app f) h = inr (verdict, verdict_judges, h)
fault_told bytes (doc.Name path) h = inr (verdict, verdict_judges, h)
fault_told bytes (doc.Double path) h = inr (verdict, verdict_judges, h)
fault_told bytes doc.OutOfMemory h = inl refl

pub given_meaning : (bytes : List ℕ) (answer : Result Input DocFault) → Gives input_of answer (reading verdict bytes) → IfOk answer (λ input. Means bytes (input_of input))
given_meaning bytes (Ok input) h = reading_means bytes (input_of input) h
given_meaning bytes (Err f) h = tt

pub given_lawful : (bytes : List ℕ) (answer : Result Input DocFault) → Gives input_of answer (reading verdict bytes) → IfOk answer (λ input. IsLawfulInput (input_of input))
given_lawful bytes (Ok input) h = reading_is_lawful bytes (input_of input) h
given_lawful bytes (Err f) h = tt

pub given_fault : (bytes : List ℕ) (answer : Result Input DocFault) → Gives input_of answer (reading verdict bytes) → IfErr answer (λ f. (f ≡ doc.OutOfMemory) ⊎ IsFaultOf bytes f)
given_fault bytes (Ok input) h = tt
given_fault bytes (Err f) h = fault_told bytes f h
