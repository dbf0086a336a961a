-- Noting flaws one after another.
use Rattle.std.proofs.Common.{◌≡◌, List, ◌++◌, Option}
use Rattle.std.proofs.lemmas.List.Sums.{fold-append}
use Rattle.contract_text.specs.declared.flaws.Flaw.{Flaw}
use Rattle.contract_text.specs.Flaws.{earlier, noted}

pub noted_both : (first : Option Flaw) (fs gs : List Flaw) → noted first (fs ++ gs) ≡ noted (noted first fs) gs
noted_both first fs gs = fold-append earlier first fs gs
