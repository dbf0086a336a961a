-- What the tally has of operations and commas is their number.
use Rattle.std.proofs.Common.{◌≡◌, ℕ, ◌+◌, Bool, true, false, cond, List, [], ◌∷◌, ◌++◌, fold, refl, sym, ap, ◌∙◌, arith}
use Rattle.std.proofs.lemmas.List.Sums.{fold-append, sum_by-cons}
use Rattle.contract_grammar.specs.declared.token.Mark.TheVariants.{WordOp, Comma}
use Rattle.contract_grammar.specs.declared.token.Token.{Token}
use Rattle.contract_grammar.specs.declared.token.Token.TheVariants.{Fixed}
use Rattle.contract_grammar.specs.declared.token.Extent.{Extent}
use Rattle.contract_grammar.specs.declared.token.Placed.{Placed}
use Rattle.contract_grammar.specs.Grammar.{fixed}
use Rattle.contract_grammar.specs.Limits.{Tally, tallied, no_tally, tally, ops_after, begun_after, commas_after}
use Rattle.contract_grammar.specs.Laws.{is_op_token, is_comma_token, op_count, comma_count, IsTallied}

ops_more : (n : ℕ) (t : Token) → ops_after n t ≡ n + cond (is_op_token t) 1 0
ops_more n (Fixed WordOp) = refl
ops_more n _ = omega arith

begun_stays : (b at : ℕ) (t : Token) → is_op_token t ≡ false → begun_after b at t ≡ b
begun_stays b at (Fixed WordOp) h = cc
begun_stays b at _ h = refl

commas_more : (n : ℕ) (t : Token) → is_op_token t ≡ false → commas_after n t ≡ n + cond (is_comma_token t) 1 0
commas_more n (Fixed WordOp) h = cc
commas_more n (Fixed Comma) h = refl
commas_more n _ h = omega arith

none_first : (b : Bool) (n : ℕ) → cond b 1 0 + n ≡ 0 → (b ≡ false) × (n ≡ 0)
none_first true n h = absurd (omega arith)
none_first false n h = (refl, omega arith)

ops_cons : (k : Placed) (ts : List Placed) → op_count (k ∷ ts) ≡ cond (is_op_token k.token) 1 0 + op_count ts
ops_cons k ts = sum_by-cons (λ (j : Placed). cond (is_op_token j.token) 1 0) k ts

commas_cons : (k : Placed) (ts : List Placed) → comma_count (k ∷ ts) ≡ cond (is_comma_token k.token) 1 0 + comma_count ts
commas_cons k ts = sum_by-cons (λ (j : Placed). cond (is_comma_token j.token) 1 0) k ts

ops_from : (c : Tally) (ts : List Placed) → (fold tallied c ts).ops ≡ c.ops + op_count ts
unfolding tallied
ops_from c [] = omega arith
ops_from c (k ∷ ts) = let rest = ops_from (tallied c k) ts in let one = ops_more c.ops k.token in let cons = ops_cons k ts in omega arith

begun_from : (c : Tally) (ts : List Placed) → op_count ts ≡ 0 → (fold tallied c ts).begun ≡ c.begun
unfolding tallied
begun_from c [] h = refl
begun_from c (k ∷ ts) h =
    let parts = none_first (is_op_token k.token) (op_count ts) (sym (ops_cons k ts) ∙ h) in
    begun_from (tallied c k) ts parts.1 ∙ begun_stays c.begun k.span.start k.token parts.0

commas_from : (c : Tally) (ts : List Placed) → op_count ts ≡ 0 → (fold tallied c ts).commas ≡ c.commas + comma_count ts
unfolding tallied
commas_from c [] h = omega arith
commas_from c (k ∷ ts) h =
    let parts = none_first (is_op_token k.token) (op_count ts) (sym (ops_cons k ts) ∙ h) in
    let rest = commas_from (tallied c k) ts parts.1 in
    let one = commas_more c.commas k.token parts.0 in
    let cons = commas_cons k ts in
    omega arith

from_op : (ts p rest : List Placed) (w : Extent) → ts ≡ p ++ fixed w WordOp ∷ rest → tally ts ≡ fold tallied (tallied (tally p) (fixed w WordOp)) rest
from_op ts p rest w is = ap tally is ∙ fold-append tallied no_tally p (fixed w WordOp ∷ rest)

zero_and : (n : ℕ) → 0 + n ≡ n
zero_and n = omega arith

pub tallies_count : (ts : List Placed) → IsTallied ts
unfolding tallied
tallies_count ts = record {
  ops = ops_from no_tally ts ∙ zero_and (op_count ts);
  begun = λ p rest w is none. ap (λ (c : Tally). c.begun) (from_op ts p rest w is) ∙ begun_from (tallied (tally p) (fixed w WordOp)) rest none;
  commas = λ p rest w is none. ap (λ (c : Tally). c.commas) (from_op ts p rest w is) ∙ commas_from (tallied (tally p) (fixed w WordOp)) rest none ∙ zero_and (comma_count rest);
}
