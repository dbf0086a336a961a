-- A canonical text is one of its contract.
use Rattle.std.proofs.Common.{◌≡◌, ℕ, false, List, [], ◌∷◌, map, Result, Ok, Err, IfOk, refl, sym, ap, subst, ◌∙◌, inl, inr}
use Rattle.contract_grammar.specs.Tree as raw
use Rattle.contract_grammar.specs.Lexer.{tokens}
use Rattle.contract_grammar.specs.Limits.{no_tally, IsWithinLimits}
use Rattle.oxii_defs.specs.Syntax.{Op}
use Rattle.contract_text.specs.Typed.{typed_op}
use Rattle.contract_text.specs.TextMeaning.{IsContract}
use Rattle.contract_text.proofs.Quiet.{Quiet, quiet_within}
use Rattle.contract_printer.specs.Plain.{plain_op}
use Rattle.contract_printer.specs.Printed.{printed_ops}
use Rattle.contract_printer.specs.Canonical.{canonical}
use Rattle.contract_printer.proofs.Bare.{bare_op, printed_ops_bare}
use Rattle.contract_printer.proofs.Untyped.{ops_plain}
use Rattle.contract_printer.proofs.Between.{toks}
use Rattle.contract_printer.proofs.ToldOps.{ops_told}
use Rattle.contract_printer.proofs.Relexed.{tokens_again, spread, tokens_spread}
use Rattle.contract_printer.proofs.Separate.{printed_good}
use Rattle.contract_printer.proofs.Usual.{tokens_usual}
use Rattle.contract_printer.proofs.Typing.{ops_bare, flawless}
use Rattle.contract_printer.proofs.Quieted.{printed_quiet, none_passes}
use Rattle.contract_printer.proofs.Chained.{ops_chained, bare_chained}
use Rattle.contract_printer.proofs.Unended.{no_chain_end}
use Rattle.contract_printer.proofs.Accepted.{canonical_is}

tree_again : (text : List ℕ) (ops : List Op) (c : IsContract text ops) → toks (tokens (canonical ops)) ≡ printed_ops c.operations
tree_again text ops c = ap (λ l. toks (tokens l)) (canonical_is text ops c) ∙ tokens_again (printed_ops c.operations) (printed_good c.spelled.0 (tokens_usual text c.within))

pub same_tokens : (text : List ℕ) (ops : List Op) → IsContract text ops → toks (tokens (canonical ops)) ≡ printed_ops (map plain_op ops)
same_tokens text ops c =
    tree_again text ops c ∙ sym (ap (λ os. printed_ops (map plain_op os)) c.stands ∙ ap printed_ops (ops_plain [] c.operations c.flawless) ∙ printed_ops_bare c.operations)

some_ops : (os other : List raw.Op) → map bare_op os ≡ map bare_op other → (other ≡ [] → ⊥) → os ≡ [] → ⊥
some_ops [] [] same some e = some refl
some_ops [] (o ∷ other) same some e = cc
some_ops (o ∷ os) other same some e = cc

-- a canonical text keeps to the limits
within_again : (text : List ℕ) (ops : List Op) → IsContract text ops → IsWithinLimits (tokens (canonical ops))
within_again text ops c p k rest is (inl over) =
    let places : tokens (canonical ops) ≡ spread 0 false (printed_ops c.operations) = ap tokens (canonical_is text ops c) ∙ tokens_spread (printed_ops c.operations) (printed_good c.spelled.0 (tokens_usual text c.within)) in
    let quiet = subst (λ l. Quiet no_tally l) (sym places) (printed_quiet text c.operations c.spelled.0 (quiet_within (tokens text) c.within)) in
    none_passes (tokens (canonical ops)) p k rest quiet is over
within_again text ops c p k rest is (inr end) =
    let s = ops_told c.operations (tokens (canonical ops)) (tree_again text ops c) in
    let chained = ops_chained c.spelled.0 [] (λ q m more e d. c.within q m more e (inr d)) in
    no_chain_end (tokens (canonical ops)) s.tree s.spells (bare_chained s.tree c.operations s.same chained) p k rest is end

pub read_again : (text : List ℕ) (ops : List Op) → IsContract text ops → IsContract (canonical ops) ops
read_again text ops c =
    let s = ops_told c.operations (tokens (canonical ops)) (tree_again text ops c) in
    record {
      operations = s.tree;
      spelled = (s.spells, some_ops s.tree c.operations s.same c.spelled.1);
      within = within_again text ops c;
      flawless = flawless s.tree c.operations s.same c.flawless;
      stands = c.stands ∙ sym (ops_bare c.operations) ∙ sym (ap (map typed_op) s.same) ∙ ops_bare s.tree;
    }

pub if_read : {E : Type 0} (ops : List Op) (r : Result (List ℕ) E) → (text : List ℕ) × IsContract text ops → IfOk r (λ t. t ≡ canonical ops) → IfOk r (λ t. IsContract t ops)
if_read ops (Ok t) came h = rw h (read_again came.0 ops came.1)
if_read ops (Err e) came h = tt
