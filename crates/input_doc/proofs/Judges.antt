-- Of each text one thing is told, whoever tells what is so: the verdict.
use Rattle.std.proofs.Common.{◌≡◌, ℕ, List, Err, refl, subst, sym}
use Rattle.contract_text.specs.Verdict.{verdict}
use Rattle.contract_text.specs.TextFaults.{Judge, IsJudge}
use Rattle.contract_text.proofs.Judged.{verdict_meant}
use Rattle.doc_forms.specs.Faults.{Fault}
use Rattle.input_doc.specs.Reading.{reading}
use Rattle.input_doc.specs.FirstFaults.{HasFault}

pub verdict_judges : IsJudge verdict
verdict_judges text = (verdict_meant text (verdict text)).0 refl

-- two functions that tell the same of each text are one
one_judge : (judge : Judge) → IsJudge judge → verdict ≡ judge
one_judge judge is = λ k. λ text. (verdict_meant text (judge text)).1 (is text) k

pub fault_read : (bytes : List ℕ) (fault : Fault) → HasFault bytes fault → reading verdict bytes ≡ Err fault
fault_read bytes fault (judge, is, told) = subst (λ (j : Judge). reading j bytes ≡ Err fault) (sym (one_judge judge is)) told

pub has_fault : (bytes : List ℕ) (fault : Fault) → reading verdict bytes ≡ Err fault → HasFault bytes fault
has_fault bytes fault told = (verdict, verdict_judges, told)
