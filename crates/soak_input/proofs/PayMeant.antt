-- What the text of the contract means.
use Rattle.std.proofs.Common.{◌≡◌, List, [], ◌∷◌, Result, Err, refl, sym, subst, ◌∙◌}
use Rattle.contract_grammar.specs.Lexer.{lexed, token_at, sign_at, single, number_of, word_of, word_in_block, word_in_expression}
use Rattle.contract_grammar.specs.Expressions.{taken, ended}
use Rattle.contract_grammar.specs.Limits.{tallied, passes}
use Rattle.contract_grammar.specs.Modes.{advance, at_end}
use Rattle.contract_grammar.specs.Reading.{reading, read_from}
use Rattle.contract_text.specs.declared.faults.Contract.{Contract}
use Rattle.contract_text.specs.declared.faults.TextFault.{TextFault}
use Rattle.contract_text.specs.declared.faults.TextFault.TheVariants as fault
use Rattle.contract_text.specs.TextMeaning.{IsContract}
use Rattle.contract_text.specs.TextFaults.{accepted}
use Rattle.contract_text.specs.Verdict.{verdict, GivesVerdict}
use Rattle.contract_text.proofs.Judged.{contract_of, one_contract}
use Rattle.oxii_defs.specs.Syntax.{Op}
use Rattle.soak_input.specs.Generator.{pay_text}
use Rattle.soak_input.specs.Laws.{pay, TheContractIsPay}

-- by reading it
pay_verdict : verdict pay_text ≡ accepted (pay ∷ [])
unfolding verdict reading read_from lexed token_at sign_at single number_of word_of word_in_block word_in_expression taken ended tallied passes advance at_end
pay_verdict = refl

pub pay_contract : IsContract pay_text (pay ∷ [])
pay_contract = contract_of pay_text (pay ∷ []) pay_verdict

pub pay_alone : (ops : List Op) → IsContract pay_text ops → ops ≡ pay ∷ []
pay_alone ops h = one_contract pay_text ops (pay ∷ []) h pay_contract

pub the_contract : TheContractIsPay
the_contract ops = (pay_alone ops, λ e. subst (IsContract pay_text) (sym e) pay_contract)

abbrev contract_err : TextFault → Result Contract TextFault
contract_err f = Err f

-- a reader of it can only want memory
pub memory_alone : (f : TextFault) → GivesVerdict (contract_err f) (verdict pay_text) → f ≡ fault.OutOfMemory
memory_alone (fault.Syntax at) h = absurd (let e = sym pay_verdict ∙ h in cc)
memory_alone (fault.UnknownName at) h = absurd (let e = sym pay_verdict ∙ h in cc)
memory_alone (fault.Kind at) h = absurd (let e = sym pay_verdict ∙ h in cc)
memory_alone (fault.Limit at) h = absurd (let e = sym pay_verdict ∙ h in cc)
memory_alone (fault.Double at) h = absurd (let e = sym pay_verdict ∙ h in cc)
memory_alone fault.OutOfMemory h = refl
