-- A contract's canonical text is that of the tree of any text of it.
use Rattle.std.proofs.Common.{◌≡◌, ℕ, ◌≤◌, List, [], map, length, Result, Ok, Err, IfOk, ap, ◌∙◌, arith}
use Rattle.oxii_defs.specs.Syntax.{Op}
use Rattle.contract_text.specs.TextMeaning.{IsContract}
use Rattle.contract_text.specs.TextFaults.{AreOneContract}
use Rattle.contract_text.proofs.Judged.{one_contract}
use Rattle.contract_printer.specs.Plain.{plain_op}
use Rattle.contract_printer.specs.Printed.{printed_ops}
use Rattle.contract_printer.specs.Canonical.{text_of, canonical}
use Rattle.contract_printer.proofs.Bare.{printed_ops_bare}
use Rattle.contract_printer.proofs.Untyped.{ops_plain}
use Rattle.contract_printer.proofs.ShortestOps.{printed_shortest}
use Rattle.contract_printer.proofs.Texts.{texts_are_longer}

pub canonical_is : (text : List ℕ) (ops : List Op) (c : IsContract text ops) → canonical ops ≡ text_of (printed_ops c.operations)
unfolding canonical
canonical_is text ops c =
    ap (λ os. text_of (printed_ops (map plain_op os))) c.stands
    ∙ ap (λ os. text_of (printed_ops os)) (ops_plain [] c.operations c.flawless)
    ∙ ap text_of (printed_ops_bare c.operations)

pub canonical_shortest : (ops : List Op) (other : List ℕ) → IsContract other ops → length (canonical ops) ≤ length other
canonical_shortest ops other c = rw (canonical_is other ops c) (omega (arith, printed_shortest c.spelled.0, texts_are_longer other))

pub one_text : (text other : List ℕ) (ops ops' : List Op) → IsContract text ops → IsContract other ops' → AreOneContract text other → canonical ops ≡ canonical ops'
one_text text other ops ops' c d same = ap canonical (one_contract other ops ops' ((same ops).0 c) d)

pub if_shortest : {E : Type 0} (ops : List Op) (r : Result (List ℕ) E) → IfOk r (λ t. t ≡ canonical ops) → IfOk r (λ t. (other : List ℕ) → IsContract other ops → length t ≤ length other)
if_shortest ops (Ok t) h = λ other is. rw h (canonical_shortest ops other is)
if_shortest ops (Err e) h = tt
