-- The faults of a document.
use Rattle.std.specs.Prelude.{ℕ, List}
use Rattle.doc_forms.specs.declared.fault.Step.{Step}
use Rattle.doc_forms.specs.declared.fault.Which.{Which}

-- why a contract's text is refused
pub data TextKind : Type 0 where
  Syntax UnknownName Kind Limit Double : TextKind

-- why a document is refused: a path leads from the root to where the fault is
pub data Fault : Type 0 where
  NotJson : Fault
  Field : (path : List Step) → Fault
  Limit : (which : Which) (limit : ℕ) → Fault
  Contract : (app : ℕ) (kind : TextKind) (at : ℕ) → Fault
  Name : (path : List Step) → Fault
  Double : (path : List Step) → Fault
