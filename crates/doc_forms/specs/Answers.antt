-- What code answers of a check.
use Rattle.std.specs.Prelude.{◌≡◌, ◌⊎◌, ◌∷◌, Result, Ok, Err}
use Rattle.doc_forms.specs.declared.fault.Step.{Step}
use Rattle.doc_forms.specs.declared.fault.DocFault.{DocFault}
use Rattle.doc_forms.specs.declared.fault.DocFault.TheVariants as doc
use Rattle.doc_forms.specs.Faults.{Fault}
use Rattle.doc_forms.specs.Check.{Fails}

-- what a function returned, as contracts see it, is what the check gives, unless memory ran out
abbrev pub Gives : {X Y : Type 0} → (X → Y) → Result X DocFault → Result Y Fault → Type 0
Gives seen (Ok x) check = check ≡ Ok (seen x)
Gives seen (Err e) check = Fails e check

-- a function's fault, from one step further up
abbrev pub raised : Step → DocFault → DocFault
raised s doc.NotJson = doc.NotJson
raised s (doc.Field p) = doc.Field (s ∷ p)
raised s (doc.Limit w n) = doc.Limit w n
raised s (doc.Contract app f) = doc.Contract app f
raised s (doc.Name p) = doc.Name (s ∷ p)
raised s (doc.Double p) = doc.Double (s ∷ p)
raised s doc.OutOfMemory = doc.OutOfMemory

-- the same, unless memory ran out
abbrev pub IsRaised : Step → DocFault → DocFault → Type 0
IsRaised s f e = (e ≡ raised s f) ⊎ (e ≡ doc.OutOfMemory)
