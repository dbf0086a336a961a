-- A check of a value: what the value stands for, or the first fault.
use Rattle.std.specs.Prelude.{◌≡◌, ℕ, ◌∷◌, Result, Ok, Err}
use Rattle.contract_text.specs.declared.faults.TextFault.{TextFault}
use Rattle.contract_text.specs.declared.faults.TextFault.TheVariants as text
use Rattle.doc_forms.specs.declared.fault.Step.{Step}
use Rattle.doc_forms.specs.declared.fault.DocFault.{DocFault}
use Rattle.doc_forms.specs.declared.fault.DocFault.TheVariants as doc
use Rattle.doc_forms.specs.Faults.{Fault, NotJson, Field, Limit, Contract, Name, Double}
use Rattle.doc_forms.specs.Faults as kind

-- one check, and then another; the first fault stays
infixl 10 ◌>>=◌
abbrev pub ◌>>=◌ : {A B : Type 0} → Result A Fault → (A → Result B Fault) → Result B Fault
(Ok x) >>= f = f x
(Err e) >>= f = Err e

-- the fault, seen from one step further up
abbrev pub under : Step → Fault → Fault
under s NotJson = NotJson
under s (Field p) = Field (s ∷ p)
under s (Limit w n) = Limit w n
under s (Contract app k at) = Contract app k at
under s (Name p) = Name (s ∷ p)
under s (Double p) = Double (s ∷ p)

-- a check of what is one step further down
abbrev pub within : {A : Type 0} → Step → Result A Fault → Result A Fault
within s (Ok x) = Ok x
within s (Err f) = Err (under s f)

-- a contract's text failed as the check does, and not for want of memory
abbrev pub FailsText : {Y : Type 0} → ℕ → TextFault → Result Y Fault → Type 0
FailsText app (text.Syntax at) check = check ≡ Err (Contract app kind.Syntax at)
FailsText app (text.UnknownName at) check = check ≡ Err (Contract app kind.UnknownName at)
FailsText app (text.Kind at) check = check ≡ Err (Contract app kind.Kind at)
FailsText app (text.Limit at) check = check ≡ Err (Contract app kind.Limit at)
FailsText app (text.Double at) check = check ≡ Err (Contract app kind.Double at)
FailsText app text.OutOfMemory check = ⊥

-- a function failed as the check does, or for want of memory
abbrev pub Fails : {Y : Type 0} → DocFault → Result Y Fault → Type 0
Fails doc.NotJson check = check ≡ Err NotJson
Fails (doc.Field p) check = check ≡ Err (Field p)
Fails (doc.Limit w n) check = check ≡ Err (Limit w n)
Fails (doc.Contract app f) check = FailsText app f check
Fails (doc.Name p) check = check ≡ Err (Name p)
Fails (doc.Double p) check = check ≡ Err (Double p)
Fails doc.OutOfMemory check = Unit {0}
