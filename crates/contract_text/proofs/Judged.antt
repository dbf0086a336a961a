-- What the verdict on a text means.
use Rattle.std.proofs.Common.{◌≡◌, ◌↔◌, ◌∙◌, ℕ, ◌*◌, ◌≤◌, List, [], ◌∷◌, ◌++◌, length, map, Option, Some, None, Result, Ok, Err, IfOk, IfErr, refl, sym, ap, subst, arith}
use Rattle.std.specs.List.{All}
use Rattle.std.proofs.lemmas.List.{length-map}
use Rattle.contract_grammar.specs.declared.tree.Operation.{Operation}
use Rattle.contract_grammar.specs.Tree as raw
use Rattle.contract_grammar.specs.Tree.{Statement, define, assign, demand, choose, again, Statements, nil, then_one}
use Rattle.contract_grammar.specs.Held.{operation, operations}
use Rattle.contract_grammar.specs.Lexer.{tokens}
use Rattle.contract_grammar.specs.Grammar.{SpellsContract}
use Rattle.contract_grammar.specs.Limits.{IsWithinLimits}
use Rattle.contract_grammar.specs.Reading.{Reading, reads, syntax_at, limit_at, reading, ReadingMeans}
use Rattle.contract_grammar.proofs.Meaning.{reading_means}
use Rattle.contract_grammar.proofs.Determined.{reading_is}
use Rattle.oxii_defs.specs.Syntax.{Op}
use Rattle.oxii_defs.specs.WellFormed.{IsWellFormed}
use Rattle.oxii_defs.specs.NameLists.{AllDiffer}
use Rattle.txn_core.specs.Meant.{op_of}
use Rattle.contract_text.specs.declared.flaws.Flaw.{Flaw}
use Rattle.contract_text.specs.declared.faults.Contract.{Contract}
use Rattle.contract_text.specs.declared.faults.TextFault.{TextFault}
use Rattle.contract_text.specs.declared.faults.TextFault.TheVariants as fault
use Rattle.contract_text.specs.Symbols.{made}
use Rattle.contract_text.specs.Flaws.{noted, flaws, first_flaw}
use Rattle.contract_text.specs.Room.{IsBounded, AllBounded, IsBoundedOp, HasRoom, AllHaveRoom, HasRoomInOp}
use Rattle.contract_text.specs.TextMeaning.{IsContract}
use Rattle.contract_text.specs.TextFaults.{HasTextFault, Verdict, accepted, flawed, syntax_fault, limit_fault, Tells}
use Rattle.contract_text.specs.Verdict.{judged, told, verdict, GivesVerdict}
use Rattle.contract_text.proofs.First.{first_noted, noted_first}
use Rattle.contract_text.proofs.Bounds.{operations_bounded}
use Rattle.contract_text.proofs.Fine.{AreFine, accepted_fine, no_flaws, all_first, all_rest, all_more}

-- ---- room

mutual
  room_in : (locals : List (List ℕ)) (turns : ℕ) (s : Statement) → IsBounded locals turns s → HasRoom locals s
  room_in locals turns (define at x e) h = h.0
  room_in locals turns (assign at x e) h = h.0
  room_in locals turns (demand e) h = h.0
  room_in locals turns (choose e b c) h = (h.0, room_in_all locals turns b h.2, room_in_all locals turns c h.3)
  room_in locals turns (again n b) h = (h.1, room_in_all locals (turns * n) b h.3)

  room_in_all : (locals : List (List ℕ)) (turns : ℕ) (ss : Statements) → AllBounded locals turns ss → AllHaveRoom locals ss
  room_in_all locals turns nil h = tt
  room_in_all locals turns (then_one ss s) h = (room_in_all locals turns ss h.0, room_in (locals ++ made ss) turns s h.1)

room_in_op : (o : raw.Op) → IsBoundedOp o → HasRoomInOp o
room_in_op o h = record { params = h.params; body = room_in_all [] 1 o.body h.body }

room_each : (os : List Operation) → All IsBoundedOp (operations os) → All (λ o. HasRoomInOp (operation o)) os
room_each [] h = λ k d lt. absurd (omega (arith, lt))
room_each (o ∷ os) h = all_more (λ o. HasRoomInOp (operation o)) o os (room_in_op (operation o) (all_first IsBoundedOp (operation o) (operations os) h))
    (room_each os (all_rest IsBoundedOp (operation o) (operations os) h))

pub room_read : (text : List ℕ) (os : List Operation) → reading text ≡ reads (operations os) → All (λ o. HasRoomInOp (operation o)) os
room_read text os is =
    let means = subst (λ r. ReadingMeans (tokens text) (length text) r) is (reading_means text) in
    room_each os (operations_bounded (tokens text) (operations os) means.0 means.1).each

-- ---- the verdict

pub verdict_read : (text : List ℕ) (r : Reading) → reading text ≡ r → verdict text ≡ told r
unfolding verdict
verdict_read text r is = ap told is

-- ---- what it means

judged_tells : (text : List ℕ) (os : List raw.Op) → SpellsContract (tokens text) os → IsWithinLimits (tokens text) → (first : Option Flaw) → first_flaw os ≡ first → Tells text (judged first os)
judged_tells text os r within None is = record { operations = os; spelled = r; within = within; flawless = no_flaws (flaws os) is; stands = refl }
judged_tells text os r within (Some f) is = record { operations = os; spelled = r; within = within; first = first_noted f (flaws os) is }

told_tells : (text : List ℕ) (r : Reading) → ReadingMeans (tokens text) (length text) r → Tells text (told r)
told_tells text (reads os) means = judged_tells text os means.0 means.1 (first_flaw os) refl
told_tells text (syntax_at at) means = means
told_tells text (limit_at at) means = means

verdict_tells : (text : List ℕ) (v : Verdict) → verdict text ≡ v → Tells text v
unfolding verdict
verdict_tells text v is = subst (Tells text) is (told_tells text (reading text) (reading_means text))

-- nothing else is told of a text
tells_verdict : (text : List ℕ) (v : Verdict) → Tells text v → verdict text ≡ v
unfolding verdict
tells_verdict text (accepted typed) c =
    ap told (reading_is text (reads c.operations) (c.spelled, c.within)) ∙ ap (λ fs. judged (noted None fs) c.operations) c.flawless ∙ ap (λ ops. accepted ops) (sym c.stands)
tells_verdict text (syntax_fault at) h = ap told (reading_is text (syntax_at at) h)
tells_verdict text (limit_fault at) h = ap told (reading_is text (limit_at at) h)
tells_verdict text (flawed f) h = ap told (reading_is text (reads h.operations) (h.spelled, h.within)) ∙ ap (λ o. judged o h.operations) (noted_first f (flaws h.operations) h.first)

pub verdict_meant : (text : List ℕ) (v : Verdict) → (verdict text ≡ v) ↔ Tells text v
verdict_meant text v = (verdict_tells text v, tells_verdict text v)

pub contract_of : (text : List ℕ) (ops : List Op) → verdict text ≡ accepted ops → IsContract text ops
contract_of text ops e = verdict_tells text (accepted ops) e

pub accepted_of : (text : List ℕ) (ops : List Op) → IsContract text ops → verdict text ≡ accepted ops
accepted_of text ops c = tells_verdict text (accepted ops) c

accepted_is : (os os' : List Op) → accepted os ≡ accepted os' → os ≡ os'
accepted_is os os' e = cc

-- a text stands for one list of operations
pub one_contract : (text : List ℕ) (ops ops' : List Op) → IsContract text ops → IsContract text ops' → ops ≡ ops'
one_contract text ops ops' c d = accepted_is ops ops' (sym (accepted_of text ops c) ∙ accepted_of text ops' d)

-- ---- what is accepted

pub contract_fine : (text : List ℕ) (ops : List Op) → IsContract text ops → AreFine ops
contract_fine text ops c = rw c.stands (accepted_fine c.operations (ap (noted None) c.flawless) (operations_bounded (tokens text) c.operations c.spelled c.within))

pub given_fine : (text : List ℕ) (answer : Result Contract TextFault) → GivesVerdict answer (verdict text) → IfOk answer (λ contract. All IsWellFormed (map op_of contract.ops))
given_fine text (Ok contract) h = (contract_fine text (map op_of contract.ops) (contract_of text _ h)).each
given_fine text (Err f) h = tt

pub given_names : (text : List ℕ) (answer : Result Contract TextFault) → GivesVerdict answer (verdict text) → IfOk answer (λ contract. AllDiffer (map (λ op. op.name) (map op_of contract.ops)))
given_names text (Ok contract) h = (contract_fine text (map op_of contract.ops) (contract_of text _ h)).names
given_names text (Err f) h = tt

pub given_count : (text : List ℕ) (answer : Result Contract TextFault) → GivesVerdict answer (verdict text) → IfOk answer (λ contract. length contract.ops ≤ 16)
given_count text (Ok contract) h = subst (λ n. n ≤ 16) (length-map contract.ops op_of) (contract_fine text (map op_of contract.ops) (contract_of text _ h)).count
given_count text (Err f) h = tt

pub given_contract : (text : List ℕ) (answer : Result Contract TextFault) → GivesVerdict answer (verdict text) → IfOk answer (λ contract. IsContract text (map op_of contract.ops))
given_contract text (Ok contract) h = verdict_tells text _ h
given_contract text (Err f) h = tt

pub given_fault : (text : List ℕ) (answer : Result Contract TextFault) → GivesVerdict answer (verdict text) → IfErr answer (HasTextFault text)
given_fault text (Ok contract) h = tt
given_fault text (Err (fault.Syntax at)) h = verdict_tells text _ h
given_fault text (Err (fault.UnknownName at)) h = verdict_tells text _ h
given_fault text (Err (fault.Kind at)) h = verdict_tells text _ h
given_fault text (Err (fault.Limit at)) h = verdict_tells text _ h
given_fault text (Err (fault.Double at)) h = verdict_tells text _ h
given_fault text (Err fault.OutOfMemory) h = tt
