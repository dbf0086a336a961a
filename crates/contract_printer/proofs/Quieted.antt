-- A canonical text's tokens pass no counted limit where those of a text that reads as its contract pass none.
use Rattle.std.proofs.Common.{◌≡◌, ℕ, true, false, List, [], ◌∷◌, ◌++◌, subst, sym}
use Rattle.std.proofs.lemmas.Bool.{or_parts}
use Rattle.contract_grammar.specs.declared.token.Placed.{Placed}
use Rattle.contract_grammar.specs.Tree.{Op}
use Rattle.contract_grammar.specs.Grammar.{SpellsOps}
use Rattle.contract_grammar.specs.Lexer.{tokens}
use Rattle.contract_grammar.specs.Limits.{Tally, tallied, no_tally, tally, passes, is_far}
use Rattle.contract_text.proofs.Quiet.{Quiet, past, quiet_parts}
use Rattle.contract_printer.specs.Printed.{printed_ops}
use Rattle.contract_printer.proofs.Between.{toks}
use Rattle.contract_printer.proofs.Relexed.{spread, toks_spread}
use Rattle.contract_printer.proofs.Calm.{Allowed, Calm}
use Rattle.contract_printer.proofs.CalmOps.{ops_calm}
use Rattle.contract_printer.proofs.Spans.{tokens_spaced, Near}
use Rattle.contract_printer.proofs.Room.{ops_short, ops_near}

-- the tally without the byte where the operation begins
abbrev still : Tally → Tally
still c = record { ops = c.ops; begun = 0; commas = c.commas; parentheses = c.parentheses; scopes = c.scopes; previous = c.previous }

passed_none : (c : Tally) (k : Placed) → passes c k ≡ false → Allowed (still c) k.token × (is_far c.begun k ≡ false)
unfolding passes
passed_none c k h =
    let a = or_parts _ _ h in
    let b = or_parts _ _ a.1 in
    let d = or_parts _ _ b.1 in
    let e = or_parts _ _ d.1 in
    let f = or_parts _ _ e.1 in
    let g = or_parts _ _ f.1 in
    (record { large = a.0; long = b.0; count = d.0; deep = e.0; further = f.0; op = g.0 }, g.1)

passes_none : (c : Tally) (k : Placed) → Allowed (still c) k.token → is_far c.begun k ≡ false → passes c k ≡ false
unfolding passes
passes_none c k a near = rw (a.large, a.long, a.count, a.deep, a.further, a.op) near

quiet_calm : (c : Tally) (ks : List Placed) → Quiet c ks → Calm (still c) (toks ks) × Near c.begun ks
unfolding tallied
quiet_calm c [] h = (tt, tt)
quiet_calm c (k ∷ ks) h =
    let here = passed_none c k h.0 in
    let more = quiet_calm (tallied c k) ks h.1 in
    ((here.0, more.0), (here.1, more.1))

calm_quiet : (c : Tally) (ks : List Placed) → Calm (still c) (toks ks) → Near c.begun ks → Quiet c ks
unfolding tallied
calm_quiet c [] h near = tt
calm_quiet c (k ∷ ks) h near = (passes_none c k h.0 near.0, calm_quiet (tallied c k) ks h.1 near.1)

pub printed_quiet : (text : List ℕ) (os : List Op) → SpellsOps (tokens text) os → Quiet no_tally (tokens text) → Quiet no_tally (spread 0 false (printed_ops os))
printed_quiet text os r q =
    let all = quiet_calm no_tally (tokens text) q in
    let calm = (ops_calm r all.0).calm in
    calm_quiet no_tally (spread 0 false (printed_ops os)) (subst (λ us. Calm no_tally us) (sym (toks_spread 0 false (printed_ops os))) calm)
    (ops_near os (ops_short r 0 false 0 (tokens_spaced text) all.1 all.0) 0 0)

-- no token of such a list passes a counted limit
pub none_passes : (ts p : List Placed) (k : Placed) (rest : List Placed) → Quiet no_tally ts → ts ≡ p ++ k ∷ rest → passes (tally p) k ≡ true → ⊥
none_passes ts p k rest q is over =
    let here : passes (past no_tally p) k ≡ false = (quiet_parts no_tally p (k ∷ rest) (subst (λ l. Quiet no_tally l) is q)).1.0 in
    cc
