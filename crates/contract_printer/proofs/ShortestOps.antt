-- No tokens that spell operations are shorter than the printed ones.
use Rattle.std.proofs.Common.{◌≡◌, ◌≤◌, Bool, true, false, List, [], ◌∷◌, ◌++◌, length, refl, sym, ap, ◌∙◌, append_assoc, arith}
use Rattle.std.proofs.lemmas.List.{append-nil}
use Rattle.contract_grammar.specs.declared.token.Mark.TheVariants.{WordIf, WordElse, OpenBlock, CloseBlock, Comma, Semicolon}
use Rattle.contract_grammar.specs.declared.token.Token.{Token}
use Rattle.contract_grammar.specs.declared.token.Token.TheVariants.{Close, Fixed}
use Rattle.contract_grammar.specs.declared.token.Placed.{Placed}
use Rattle.contract_grammar.specs.declared.tree.Param.{Param}
use Rattle.contract_grammar.specs.declared.tree.Head.{Head}
use Rattle.contract_grammar.specs.Tree.{Tree, Statement, Statements, nil, then_one, Op}
use Rattle.contract_grammar.specs.Grammar.{tok, fixed, Spells, SpellsStatements, nothing, more, SpellsStatement, of_let, of_assign, of_require, of_if, of_else, of_repeat, SpellsBlock, block, SpellsParam, of_record, of_amount, SpellsParams, one_param, more_params, SpellsHead, without, with, SpellsOp, of_op, SpellsOps, no_ops, more_ops}
use Rattle.contract_printer.specs.Canonical.{is_word, text_of}
use Rattle.contract_printer.specs.Printed.{printed, braced, printed_stmt, printed_all, printed_else, printed_param, printed_more, printed_params, printed_head, printed_op, printed_ops}
use Rattle.contract_printer.proofs.Between.{toks, toks-append, between, between-append, length-text, last_word, last-append, Shorter, both_shorter}
use Rattle.contract_printer.proofs.Shortest.{shortest}

sign_shorter : (t : Token) → is_word t ≡ false → Shorter (t ∷ []) (t ∷ [])
sign_shorter t h = record { le = omega arith; ends = h; also = h }

braced_shorter : {ts us : List Token} → Shorter ts us → Shorter (braced ts) (braced us)
braced_shorter h = both_shorter (sign_shorter (Fixed OpenBlock) refl) (both_shorter h (sign_shorter (Fixed CloseBlock) refl))

-- an expression before a sign, and what follows
ended_le : {ts : List Placed} {e : Tree} → Spells 0 ts e → (b : Bool) (t : Token) (xs ys : List Token) → between (is_word t) ys false ≤ between (is_word t) xs false
    → between b (printed 0 e ++ t ∷ ys) false ≤ between b (toks ts ++ t ∷ xs) false
ended_le {ts} {e} r b t xs ys le = rw (between-append b (printed 0 e) ys t false, between-append b (toks ts) xs t false) (omega (arith, shortest r b (is_word t), le))

pub record IsBraced (bs : List Placed) (b : Statements) : Type 0 where
  pub own : List Token
  pub is : toks bs ≡ braced own
  pub shorter : Shorter own (printed_all b)

-- a word before tokens that begin with a sign
else_shorter : {own : List Token} (c : Statements) → Shorter own (printed_all c) → Shorter (Fixed WordElse ∷ braced own) (printed_else c)
else_shorter nil h = let k = braced_shorter h in record { le = omega arith; ends = k.ends; also = refl }
else_shorter (then_one ss s) h = let k = braced_shorter h in record { le = omega (arith, k.le); ends = k.ends; also = k.also }

last_ended : (b : Bool) (ts : List Token) (t : Token) → last_word b (ts ++ t ∷ []) ≡ is_word t
last_ended b ts t = last-append b ts (t ∷ [])

if_shorter : {ts : List Placed} {e : Tree} {xs ys : List Token} → Spells 0 ts e → Shorter (Fixed OpenBlock ∷ xs) (Fixed OpenBlock ∷ ys) → Shorter (Fixed WordIf ∷ (toks ts ++ Fixed OpenBlock ∷ xs)) (Fixed WordIf ∷ (printed 0 e ++ Fixed OpenBlock ∷ ys))
if_shorter {ts} {e} {xs} {ys} r h = record {
  le = omega (arith, ended_le r true (Fixed OpenBlock) xs ys (omega (arith, h.le)));
  ends = last-append true (toks ts) (Fixed OpenBlock ∷ xs) ∙ h.ends;
  also = last-append true (printed 0 e) (Fixed OpenBlock ∷ ys) ∙ h.also;
}

mutual
  stmts_shorter : {ts : List Placed} {ss : Statements} → SpellsStatements ts ss → Shorter (toks ts) (printed_all ss)
  stmts_shorter nothing = record { le = omega arith; ends = refl; also = refl }
  stmts_shorter (more {xs = xs} {ys = ys} r q) = rw (toks-append xs ys) (both_shorter (stmts_shorter r) (stmt_shorter q))

  stmt_shorter : {ts : List Placed} {s : Statement} → SpellsStatement ts s → Shorter (toks ts) (printed_stmt s)
  stmt_shorter (of_let {ts = ts} {e = e} z r) = rw (toks-append ts (fixed z Semicolon ∷ [])) (record {
    le = omega (arith, ended_le r false (Fixed Semicolon) [] [] (omega arith));
    ends = last_ended false (toks ts) (Fixed Semicolon);
    also = last_ended false (printed 0 e) (Fixed Semicolon);
  })
  stmt_shorter (of_assign {ts = ts} {e = e} z r) = rw (toks-append ts (fixed z Semicolon ∷ [])) (record {
    le = omega (arith, ended_le r false (Fixed Semicolon) [] [] (omega arith));
    ends = last_ended false (toks ts) (Fixed Semicolon);
    also = last_ended false (printed 0 e) (Fixed Semicolon);
  })
  stmt_shorter (of_require {ts = ts} {e = e} z r) = rw (toks-append ts (fixed z Semicolon ∷ [])) (record {
    le = omega (arith, ended_le r true (Fixed Semicolon) [] [] (omega arith));
    ends = last_ended true (toks ts) (Fixed Semicolon);
    also = last_ended true (printed 0 e) (Fixed Semicolon);
  })
  stmt_shorter (of_if {ts = ts} {bs = bs} {e = e} {b = b} r q) =
      let one = block_shorter q in
      rw (toks-append ts bs, one.is, append-nil (printed_all b ++ Fixed CloseBlock ∷ [])) (if_shorter r (braced_shorter one.shorter))
  stmt_shorter (of_else {ts = ts} {bs = bs} {cs = cs} {e = e} {b = b} {c = c} v r q p) =
      let one = block_shorter q in
      let two = block_shorter p in
      rw (toks-append ts (bs ++ fixed v WordElse ∷ cs), toks-append bs (fixed v WordElse ∷ cs), one.is, two.is) (if_shorter r (both_shorter (braced_shorter one.shorter) (else_shorter c two.shorter)))
  stmt_shorter (of_repeat q) =
      let one = block_shorter q in
      let k = braced_shorter one.shorter in
      rw one.is (record { le = omega (arith, k.le); ends = k.ends; also = k.also })

  block_shorter : {bs : List Placed} {b : Statements} → SpellsBlock bs b → IsBraced bs b
  block_shorter (block {xs = xs} z r) = record { own = toks xs; is = ap (λ ts. Fixed OpenBlock ∷ ts) (toks-append xs (fixed z CloseBlock ∷ [])); shorter = stmts_shorter r }

-- ---- operations

-- tokens that are as long wherever they stand
abbrev Same : List Token → List Token → Type 0
Same ts us = (b c : Bool) → between b us c ≡ between b ts c

param_same : {xs : List Placed} {q : Param} → SpellsParam xs q → Same (toks xs) (printed_param q)
param_same of_record b c = refl
param_same of_amount b c = refl

more_one : (ps : List Param) (q : Param) → printed_more (ps ++ q ∷ []) ≡ printed_more ps ++ Fixed Comma ∷ printed_param q
more_one [] q = refl
more_one (p ∷ ps) q = ap (λ ts. Fixed Comma ∷ (printed_param p ++ ts)) (more_one ps q)

pub params_one : {xs : List Placed} {ps : List Param} → SpellsParams xs ps → (q : Param) → printed_params (ps ++ q ∷ []) ≡ printed_params ps ++ Fixed Comma ∷ printed_param q
params_one (one_param {q = p} r) q = refl
params_one (more_params {ps = ps} {q = p} v r k) q = by_first ps p
  where
    by_first : (ps : List Param) (p : Param) → printed_params ((ps ++ p ∷ []) ++ q ∷ []) ≡ printed_params (ps ++ p ∷ []) ++ Fixed Comma ∷ printed_param q
    by_first [] p = refl
    by_first (o ∷ ps) p = ap (λ ts. printed_param o ++ ts) (more_one (ps ++ p ∷ []) q)

params_same : {xs : List Placed} {ps : List Param} → SpellsParams xs ps → Same (toks xs) (printed_params ps)
params_same (one_param {xs = xs} {q = q} r) b c = param_same r b c
params_same (more_params {xs = xs} {ys = ys} {ps = ps} {q = q} v r k) b c =
    rw (params_one r q, toks-append xs (fixed v Comma ∷ ys), between-append b (printed_params ps) (printed_param q) (Fixed Comma) c, between-append b (toks xs) (toks ys) (Fixed Comma) c)
    (rw (params_same r b false, param_same k false c) refl)

head_shorter : {ts : List Placed} {h : Head} → SpellsHead ts h → Shorter (toks ts) (printed_head h)
head_shorter without = record { le = omega arith; ends = refl; also = refl }
head_shorter (with {xs = xs} {ps = ps} z r) = rw (toks-append xs (tok z Close ∷ [])) (record {
  le = omega (arith, between-append false (printed_params ps) [] Close false, between-append false (toks xs) [] Close false, params_same r false false);
  ends = last_ended false (toks xs) Close;
  also = last_ended false (printed_params ps) Close;
})

pub op_shorter : {ts : List Placed} {o : Op} → SpellsOp ts o → Shorter (toks ts) (printed_op o)
op_shorter (of_op {hs = hs} {bs = bs} r q) = let one = block_shorter q in rw (toks-append hs bs, one.is) (both_shorter (head_shorter r) (braced_shorter one.shorter))

pub ops_one : (os : List Op) (o : Op) → printed_ops (os ++ o ∷ []) ≡ printed_ops os ++ printed_op o
ops_one [] o = append-nil (printed_op o)
ops_one (p ∷ os) o = ap (λ ts. printed_op p ++ ts) (ops_one os o) ∙ sym (append_assoc (printed_op p) (printed_ops os) (printed_op o))

ops_shorter : {ts : List Placed} {os : List Op} → SpellsOps ts os → Shorter (toks ts) (printed_ops os)
ops_shorter no_ops = record { le = omega arith; ends = refl; also = refl }
ops_shorter (more_ops {xs = xs} {ys = ys} {os = os} {o = o} r q) = rw (toks-append xs ys, ops_one os o) (both_shorter (ops_shorter r) (op_shorter q))

-- the printed tokens of operations are no longer than any that spell them
pub printed_shortest : {ts : List Placed} {os : List Op} → SpellsOps ts os → length (text_of (printed_ops os)) ≤ length (text_of (toks ts))
printed_shortest {ts} {os} r = rw (length-text false (printed_ops os), length-text false (toks ts)) (ops_shorter r).le
