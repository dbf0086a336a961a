-- What the contract of a made input means, and that the input is lawful.
use Rattle.std.specs.Prelude.{◌≡◌, ◌≤◌, ◌↔◌, ℕ, List, [], ◌∷◌, codes}
use Rattle.oxii_defs.specs.Syntax.{Op, Sub, Add, Param, Rec, Calc, Ge, Cmp, Require, SetRec, Done, Then, RecKind, NumKind}
use Rattle.contract_text.specs.TextMeaning.{IsContract}
use Rattle.input_doc.specs.Inputs.{Input}
use Rattle.input_doc.specs.LawfulInputs.{IsLawfulInput}
use Rattle.soak_input.specs.Generator.{pay_text, IsSoakInput}

-- `require from>=n;from=from-n;to=to+n;`, where `from` is parameter 0, `to` parameter 1 and `n` parameter 2
abbrev pub pay : Op
pay = record {
  name = codes "pay";
  params = record { name = codes "from"; kind = RecKind } ∷ record { name = codes "to"; kind = RecKind } ∷ record { name = codes "n"; kind = NumKind } ∷ [];
  body = Then (Require (Cmp Ge (Rec 0) (Param 2))) (Then (SetRec 0 (Calc Sub (Rec 0) (Param 2))) (Then (SetRec 1 (Calc Add (Rec 1) (Param 2))) Done));
}

-- the text of the contract means this operation alone
abbrev pub TheContractIsPay : Type 0
TheContractIsPay = (ops : List Op) → IsContract pay_text ops ↔ (ops ≡ pay ∷ [])

-- each seed makes a lawful input
abbrev pub SoakInputsAreLawful : Type 0
SoakInputsAreLawful = (seed txns : ℕ) (input : Input) → txns ≤ 4096 → IsSoakInput seed txns input → IsLawfulInput input
