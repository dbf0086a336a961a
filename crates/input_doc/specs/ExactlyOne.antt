-- Of meaning and fault there is exactly one, and what is meant is lawful.
use Rattle.std.specs.Prelude.{◌≡◌, ◌⊎◌, ℕ, List, Some, None, Result, Ok, Err}
use Rattle.serde_json.specs.View.{view}
use Rattle.serde_json.specs.declared.value.Value.{Value}
use Rattle.doc_forms.specs.declared.fault.DocFault.{DocFault}
use Rattle.doc_forms.specs.declared.fault.DocFault.TheVariants as doc
use Rattle.doc_forms.specs.Faults.{Fault}
use Rattle.input_doc.specs.Inputs.{Input}
use Rattle.input_doc.specs.LawfulInputs.{IsLawfulInput}
use Rattle.input_doc.specs.Root.{tree_of}
use Rattle.input_doc.specs.FirstFaults.{HasFault}
use Rattle.input_doc.specs.Means.{Means}

-- of meaning and fault there is exactly one, and an input that is meant is lawful
pub record ExactlyOne (bytes : List ℕ) : Type 0 where
  pub one : ((input : Input) × Means bytes input) ⊎ ((fault : Fault) × HasFault bytes fault)
  pub not_both : (input : Input) (fault : Fault) → Means bytes input → HasFault bytes fault → ⊥
  pub one_meaning : (input other : Input) → Means bytes input → Means bytes other → input ≡ other
  pub one_fault : (fault other : Fault) → HasFault bytes fault → HasFault bytes other → fault ≡ other
  pub lawful : (input : Input) → Means bytes input → IsLawfulInput input

-- the tree of the bytes, or there is none
abbrev pub GivesTree : List ℕ → Result Value DocFault → Type 0
GivesTree bytes (Ok value) = tree_of bytes ≡ Some (view value)
GivesTree bytes (Err fault) = (fault ≡ doc.OutOfMemory) ⊎ ((fault ≡ doc.NotJson) × (tree_of bytes ≡ None))
