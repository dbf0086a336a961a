-- Where the tokens of operations pass no limit, the printed ones pass none.
use Rattle.std.proofs.Common.{◌≡◌, ℕ, ◌+◌, false, List, [], ◌∷◌, ◌++◌, refl, ap, ◌∙◌, subst, sym}
use Rattle.contract_grammar.specs.declared.token.Mark.TheVariants.{WordOp, WordRecord, WordNumber, Colon, Comma}
use Rattle.contract_grammar.specs.declared.token.Token.{Token}
use Rattle.contract_grammar.specs.declared.token.Token.TheVariants.{Named, Open, Close, Fixed}
use Rattle.contract_grammar.specs.declared.token.Placed.{Placed}
use Rattle.contract_grammar.specs.declared.tree.Param.{Param}
use Rattle.contract_grammar.specs.declared.tree.Head.{Head}
use Rattle.contract_grammar.specs.Tree.{Op}
use Rattle.contract_grammar.specs.Grammar.{tok, fixed, SpellsParam, of_record, of_amount, SpellsParams, one_param, more_params, SpellsHead, without, with, SpellsOp, of_op, SpellsOps, no_ops, more_ops}
use Rattle.contract_grammar.specs.Limits.{Tally}
use Rattle.contract_printer.specs.Printed.{braced, printed_all, printed_param, printed_params, printed_head, printed_op, printed_ops}
use Rattle.contract_printer.proofs.Between.{toks, toks-append}
use Rattle.contract_printer.proofs.ShortestOps.{params_one, ops_one}
use Rattle.contract_printer.proofs.Calm.{stepped, walked, Calm, walked_both, calm_parts, calm_both, base}
use Rattle.contract_printer.proofs.CalmStmts.{body_calm}

-- ---- a head is printed as it was read

param_is : {xs : List Placed} {q : Param} → SpellsParam xs q → (c : Tally) → Calm c (toks xs) → toks xs ≡ printed_param q
param_is (of_record {x = x}) c h = ap (λ b. Named x b ∷ Fixed Colon ∷ Fixed WordRecord ∷ []) h.0.long
param_is (of_amount {x = x}) c h = ap (λ b. Named x b ∷ Fixed Colon ∷ Fixed WordNumber ∷ []) h.0.long

params_is : {xs : List Placed} {ps : List Param} → SpellsParams xs ps → (c : Tally) → Calm c (toks xs) → toks xs ≡ printed_params ps
params_is (one_param r) c h = param_is r c h
params_is (more_params {xs = xs} {ys = ys} {ps = ps} {q = q} v r k) c h =
    let whole : toks (xs ++ fixed v Comma ∷ ys) ≡ toks xs ++ Fixed Comma ∷ toks ys = toks-append xs (fixed v Comma ∷ ys) in
    let parts = calm_parts c (toks xs) (Fixed Comma ∷ toks ys) (subst (λ us. Calm c us) whole h) in
    whole ∙ ap (λ us. us ++ Fixed Comma ∷ toks ys) (params_is r c parts.0) ∙ ap (λ us. printed_params ps ++ Fixed Comma ∷ us) (param_is k (stepped (walked c (toks xs)) (Fixed Comma)) parts.1.1) ∙ sym (params_one r q)

head_is : {ts : List Placed} {h : Head} → SpellsHead ts h → (c : Tally) → Calm c (toks ts) → toks ts ≡ printed_head h
head_is (without {x = x}) c h = ap (λ b. Fixed WordOp ∷ Named x b ∷ Open ∷ Close ∷ []) h.1.0.long
head_is (with {x = x} {long = long} {xs = xs} {ps = ps} z r) c h =
    let d = stepped (stepped (stepped c (Fixed WordOp)) (Named x long)) Open in
    let named = h.1.0.long in
    let whole : toks (xs ++ tok z Close ∷ []) ≡ toks xs ++ Close ∷ [] = toks-append xs (tok z Close ∷ []) in
    let inner = subst (λ us. Calm d us) whole h.1.1.1 in
    ap (λ b. Fixed WordOp ∷ Named x b ∷ Open ∷ toks (xs ++ tok z Close ∷ [])) named
    ∙ ap (λ us. Fixed WordOp ∷ Named x false ∷ Open ∷ us) (whole ∙ ap (λ us. us ++ Close ∷ []) (params_is r d (calm_parts d (toks xs) (Close ∷ []) inner).0))

-- ---- what a head leaves

module _ (o p : ℕ) where
  record Leaves (c : Tally) (ts : List Token) : Type 0 where
    commas : ℕ
    is : walked c ts ≡ base o commas p []

  param_leaves : {xs : List Placed} {q : Param} → SpellsParam xs q → (m : ℕ) → walked (base o m p []) (toks xs) ≡ base o m p []
  param_leaves of_record m = refl
  param_leaves of_amount m = refl

  comma_leaves : {xs : List Placed} {q : Param} → SpellsParam xs q → (m : ℕ) → walked (stepped (base o m p []) (Fixed Comma)) (toks xs) ≡ base o (m + 1) p []
  comma_leaves of_record m = refl
  comma_leaves of_amount m = refl

  params_leave : {xs : List Placed} {ps : List Param} → SpellsParams xs ps → (m : ℕ) → Leaves (base o m p []) (toks xs)
  params_leave (one_param r) m = record { commas = m; is = param_leaves r m }
  params_leave (more_params {xs = xs} {ys = ys} v r k) m =
      let one = params_leave r m in
      record {
        commas = one.commas + 1;
        is = ap (λ us. walked (base o m p []) us) (toks-append xs (fixed v Comma ∷ ys)) ∙ walked_both (base o m p []) (toks xs) (Fixed Comma ∷ toks ys) ∙ ap (λ c. walked c (Fixed Comma ∷ toks ys)) one.is ∙ comma_leaves k one.commas;
      }

head_leaves : {ts : List Placed} {h : Head} → SpellsHead ts h → (o m : ℕ) → Leaves (o + 1) 0 (base o m 0 []) (toks ts)
head_leaves without o m = record { commas = 0; is = refl }
head_leaves (with {xs = xs} z r) o m =
    let inner = params_leave (o + 1) 1 r 0 in
    record {
      commas = inner.commas;
      is = ap (λ us. walked (base (o + 1) 0 1 []) us) (toks-append xs (tok z Close ∷ [])) ∙ walked_both (base (o + 1) 0 1 []) (toks xs) (Close ∷ []) ∙ ap (λ c. stepped c Close) inner.is;
    }

-- ---- operations

-- behind operations, read and printed
pub record OpsCalm (o m : ℕ) (ts us : List Token) : Type 0 where
  pub ops : ℕ
  pub commas : ℕ
  pub text : walked (base o m 0 []) ts ≡ base ops commas 0 []
  pub calm : Calm (base o m 0 []) us
  pub own : walked (base o m 0 []) us ≡ base ops commas 0 []

-- behind one operation
pub record OpCalm (o m : ℕ) (ts us : List Token) : Type 0 where
  pub commas : ℕ
  pub text : walked (base o m 0 []) ts ≡ base (o + 1) commas 0 []
  pub calm : Calm (base o m 0 []) us
  pub own : walked (base o m 0 []) us ≡ base (o + 1) commas 0 []

pub op_calm : {ts : List Placed} {op : Op} → SpellsOp ts op → (o m : ℕ) → Calm (base o m 0 []) (toks ts) → OpCalm o m (toks ts) (printed_op op)
op_calm (of_op {hs = hs} {bs = bs} {h = h} {b = b} r q) o m calm =
    let c = base o m 0 [] in
    let parts = calm_parts c (toks hs) (toks bs) (subst (λ us. Calm c us) (toks-append hs bs) calm) in
    let left = head_leaves r o m in
    let same = head_is r c parts.0 in
    let body = body_calm (o + 1) left.commas 0 q (subst (λ d. Calm d (toks bs)) left.is parts.1) in
    let mine : walked c (printed_head h) ≡ base (o + 1) left.commas 0 [] = ap (λ us. walked c us) (sym same) ∙ left.is in
    rw (toks-append hs bs) (record {
      commas = left.commas;
      text = walked_both c (toks hs) (toks bs) ∙ ap (λ d. walked d (toks bs)) left.is ∙ body.text;
      calm = calm_both c (printed_head h) (braced (printed_all b)) (subst (λ us. Calm c us) same parts.0) (subst (λ d. Calm d (braced (printed_all b))) (sym mine) body.calm);
      own = walked_both c (printed_head h) (braced (printed_all b)) ∙ ap (λ d. walked d (braced (printed_all b))) mine ∙ body.own;
    })

pub ops_calm : {ts : List Placed} {os : List Op} → SpellsOps ts os → Calm (base 0 0 0 []) (toks ts) → OpsCalm 0 0 (toks ts) (printed_ops os)
ops_calm no_ops h = record { ops = 0; commas = 0; text = refl; calm = tt; own = refl }
ops_calm (more_ops {xs = xs} {ys = ys} {os = os} {o = o} r q) h =
    let c = base 0 0 0 [] in
    let parts = calm_parts c (toks xs) (toks ys) (subst (λ us. Calm c us) (toks-append xs ys) h) in
    let one = ops_calm r parts.0 in
    let two = op_calm q one.ops one.commas (subst (λ d. Calm d (toks ys)) one.text parts.1) in
    rw (toks-append xs ys, ops_one os o) (record {
      ops = one.ops + 1;
      commas = two.commas;
      text = walked_both c (toks xs) (toks ys) ∙ ap (λ d. walked d (toks ys)) one.text ∙ two.text;
      calm = calm_both c (printed_ops os) (printed_op o) one.calm (subst (λ d. Calm d (printed_op o)) (sym one.own) two.calm);
      own = walked_both c (printed_ops os) (printed_op o) ∙ ap (λ d. walked d (printed_op o)) one.own ∙ two.own;
    })
