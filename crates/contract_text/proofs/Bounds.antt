-- The operations that tokens within the limits spell are within the limits.
use Rattle.std.proofs.Common.{◌≡◌, ℕ, ◌+◌, ◌*◌, ◌<◌, ◌≤◌, ◌||◌, Bool, false, nat_lt, nat_le, List, [], ◌∷◌, ◌++◌, length, refl, sym, ap, ◌∙◌, subst, arith, append_assoc, length-append, mul_comm, zero, suc, slice_index_or}
use Rattle.std.specs.List.{All}
use Rattle.std.proofs.lemmas.List.{append-nil}
use Rattle.std.proofs.lemmas.List.Elements.{All-append}
use Rattle.std.proofs.lemmas.Bool.{or_parts}
use Rattle.std.proofs.lemmas.Bool.Decides.{nat_tests}
use Rattle.txn_types.specs.Values.{max_turns}
use Rattle.contract_grammar.specs.declared.token.Mark.TheVariants.{WordOp, WordLet, WordRequire, WordIf, WordElse, WordRepeat, OpenBlock, CloseBlock, Comma, Semicolon, Becomes}
use Rattle.contract_grammar.specs.declared.token.Token.TheVariants.{Number, Named, Open, Close}
use Rattle.contract_grammar.specs.declared.token.Extent.{Extent}
use Rattle.contract_grammar.specs.declared.token.Placed.{Placed}
use Rattle.contract_grammar.specs.declared.tree.Param.{Param}
use Rattle.contract_grammar.specs.declared.tree.Head.{Head}
use Rattle.contract_grammar.specs.Tree.{Statement, Statements, Op}
use Rattle.contract_grammar.specs.Grammar.{tok, fixed, SpellsStatements, nothing, more, SpellsStatement, of_let, of_assign, of_require, of_if, of_else, of_repeat, SpellsBlock, block, SpellsParam, of_record, of_amount, SpellsParams, one_param, more_params, SpellsHead, without, with, SpellsOp, of_op, SpellsOps, no_ops, more_ops, SpellsContract}
use Rattle.contract_grammar.specs.Limits.{plain, Scope, Tally, tallied, no_tally, factor, product_in, locals_in, with_local, without_first, passes, IsWithinLimits}
use Rattle.contract_text.specs.Symbols.{made, made_by}
use Rattle.contract_text.specs.Room.{IsBounded, AllBounded, IsBoundedOp, AreBounded}
use Rattle.contract_text.proofs.Quiet.{Quiet, past, past_both, quiet_within, quiet_parts, kept, Stays, stays_both, stays_past, stays_name, stays_semicolon, stays_becomes, stays_require, stays_if, stays_else, expr_small, expr_stays}

abbrev scope : ℕ → ℕ → Scope
scope product locals = record { product = product; locals = locals }

-- behind statements of a block, in which these locals are visible then
record Ends (c d : Tally) (locals : List (List ℕ)) (turns : ℕ) (rest : List Scope) : Type 0 where
  scopes : d.scopes ≡ scope turns (length locals) ∷ rest
  ops : d.ops ≡ c.ops
  few : length locals ≤ 32

ends_same : (c d : Tally) (locals : List (List ℕ)) (turns : ℕ) (rest : List Scope) → c.scopes ≡ scope turns (length locals) ∷ rest → length locals ≤ 32 → d.scopes ≡ c.scopes → d.ops ≡ c.ops
    → Ends c d (locals ++ []) turns rest
ends_same c d locals turns rest e few s o = rw (append-nil locals) (record { scopes = s ∙ e; ops = o; few = few })

-- ---- `let`

let_scopes : (c : Tally) (w : Extent) (turns n : ℕ) (rest : List Scope) → c.scopes ≡ scope turns n ∷ rest → (tallied c (fixed w WordLet)).scopes ≡ scope turns (n + 1) ∷ rest
unfolding tallied
let_scopes c w turns n rest e = ap with_local e

let_ops : (c : Tally) (w : Extent) → (tallied c (fixed w WordLet)).ops ≡ c.ops
unfolding tallied
let_ops c w = refl

below : (n m : ℕ) → m ≡ n + 1 → nat_lt 32 m ≡ false → n < 32
below n m e h = grind (arith, nat_tests)

let_few : (c : Tally) (w v : Extent) (x : List ℕ) (long : Bool) (n : ℕ) → locals_in (tallied c (fixed w WordLet)).scopes ≡ n + 1
    → passes (tallied c (fixed w WordLet)) (tok v (Named x long)) ≡ false → n < 32
unfolding tallied
let_few c w v x long n e h = below n _ e (kept (tallied c (fixed w WordLet)) (tok v (Named x long)) h).further

one_longer : (locals : List (List ℕ)) (x : List ℕ) → length locals + 1 ≡ length (locals ++ x ∷ [])
one_longer locals x = sym (length-append locals (x ∷ []))

let_ends : (c d e : Tally) (locals : List (List ℕ)) (x : List ℕ) (turns : ℕ) (rest : List Scope) → d.scopes ≡ scope turns (length locals + 1) ∷ rest → d.ops ≡ c.ops → length locals < 32
    → Stays d e → Ends c e (locals ++ x ∷ []) turns rest
let_ends c d e locals x turns rest s o few stays =
    let len = one_longer locals x in
    record { scopes = stays.scopes ∙ s ∙ ap (λ n. scope turns n ∷ rest) len; ops = stays.ops ∙ o; few = omega (arith, len) }

-- ---- `repeat`

at_least : (m n : ℕ) → nat_lt m n ≡ false → n ≤ m
at_least m n h = grind (arith, nat_tests)

count_fine : (n turns product : ℕ) → product ≡ turns → (nat_lt n 1 || (nat_lt 64 n || nat_lt max_turns (n * product))) ≡ false → (0 < n) × (n ≤ 64) × (turns * n ≤ max_turns)
count_fine n turns product e h =
    let a = or_parts (nat_lt n 1) (nat_lt 64 n || nat_lt max_turns (n * product)) h in
    let b = or_parts (nat_lt 64 n) (nat_lt max_turns (n * product)) a.1 in
    let is : turns * n ≡ n * product = mul_comm turns n ∙ ap (λ p. n * p) (sym e) in
    (at_least n 1 a.0, at_least 64 n b.0, at_least max_turns (turns * n) (ap (nat_lt max_turns) is ∙ b.1))

repeat_fine : (c : Tally) (w v : Extent) (n turns : ℕ) → product_in c.scopes ≡ turns → passes (tallied c (fixed w WordRepeat)) (tok v (Number n)) ≡ false → (0 < n) × (n ≤ 64) × (turns * n ≤ max_turns)
unfolding tallied
repeat_fine c w v n turns e h = count_fine n turns (product_in c.scopes) e (kept (tallied c (fixed w WordRepeat)) (tok v (Number n)) h).count

-- behind the count of a `repeat`
record Repeats (c d : Tally) (n : ℕ) : Type 0 where
  scopes : d.scopes ≡ c.scopes
  ops : d.ops ≡ c.ops
  factor : factor d.previous ≡ n

repeats : (c : Tally) (w v : Extent) (n : ℕ) → Repeats c (tallied (tallied c (fixed w WordRepeat)) (tok v (Number n))) n
unfolding tallied
repeats c w v n = record { scopes = refl; ops = refl; factor = refl }

-- ---- blocks

-- what a block begins with
record Enters (c : Tally) (locals : List (List ℕ)) (turns : ℕ) : Type 0 where
  product : factor c.previous * product_in c.scopes ≡ turns
  visible : locals_in c.scopes ≡ length locals
  few : length locals ≤ 32

plain_enters : (c : Tally) (locals : List (List ℕ)) (turns : ℕ) (rest : List Scope) → c.previous ≡ plain → c.scopes ≡ scope turns (length locals) ∷ rest → length locals ≤ 32 → Enters c locals turns
plain_enters c locals turns rest p e few = record { product = rw (p, e) (omega arith); visible = ap locals_in e; few = few }

open_scopes : (c : Tally) (w : Extent) → (tallied c (fixed w OpenBlock)).scopes ≡ scope (factor c.previous * product_in c.scopes) (locals_in c.scopes) ∷ c.scopes
unfolding tallied
open_scopes c w = refl

open_ops : (c : Tally) (w : Extent) → (tallied c (fixed w OpenBlock)).ops ≡ c.ops
unfolding tallied
open_ops c w = refl

close_scopes : (c : Tally) (w : Extent) → (tallied c (fixed w CloseBlock)).scopes ≡ without_first c.scopes
unfolding tallied
close_scopes c w = refl

close_ops : (c : Tally) (w : Extent) → (tallied c (fixed w CloseBlock)).ops ≡ c.ops
unfolding tallied
close_ops c w = refl

if_plain : (c : Tally) (w : Extent) → (tallied c (fixed w WordIf)).previous ≡ plain
unfolding tallied
if_plain c w = refl

else_plain : (c : Tally) (w : Extent) → (tallied c (fixed w WordElse)).previous ≡ plain
unfolding tallied
else_plain c w = refl

-- what a block leaves
record Leaves (c d : Tally) : Type 0 where
  scopes : d.scopes ≡ c.scopes
  ops : d.ops ≡ c.ops

mutual
  stmts_bounded : {ts : List Placed} {ss : Statements} → SpellsStatements ts ss → (c : Tally) (locals : List (List ℕ)) (turns : ℕ) (rest : List Scope) → Quiet c ts
      → c.scopes ≡ scope turns (length locals) ∷ rest → length locals ≤ 32 → AllBounded locals turns ss × Ends c (past c ts) (locals ++ made ss) turns rest
  stmts_bounded nothing c locals turns rest q e few = (tt, ends_same c c locals turns rest e few refl refl)
  stmts_bounded (more {xs = xs} {ys = ys} {ss = ss} {s = s} r k) c locals turns rest q e few =
      let parts = quiet_parts c xs ys q in
      let one = stmts_bounded r c locals turns rest parts.0 e few in
      let two = stmt_bounded k (past c xs) (locals ++ made ss) turns rest parts.1 one.1.scopes one.1.few in
      let is = append_assoc locals (made ss) (made_by s) in
      let end = two.1 in (
        (one.0, two.0),
        rw (past_both c xs ys) (record {
          scopes = end.scopes ∙ ap (λ l. scope turns (length l) ∷ rest) is;
          ops = end.ops ∙ one.1.ops;
          few = subst (λ l. length l ≤ 32) is end.few;
        }),
      )

  stmt_bounded : {ts : List Placed} {s : Statement} → SpellsStatement ts s → (c : Tally) (locals : List (List ℕ)) (turns : ℕ) (rest : List Scope) → Quiet c ts
      → c.scopes ≡ scope turns (length locals) ∷ rest → length locals ≤ 32 → IsBounded locals turns s × Ends c (past c ts) (locals ++ made_by s) turns rest
  stmt_bounded (of_let {w = w} {v = v} {u = u} {x = x} {long = long} {ts = ts} z r) c locals turns rest q e few =
      let c1 = tallied c (fixed w WordLet) in
      let c2 = tallied c1 (tok v (Named x long)) in
      let c3 = tallied c2 (fixed u Becomes) in
      let s = let_scopes c w turns (length locals) rest e in
      let room = let_few c w v x long (length locals) (ap locals_in s) q.1.0 in
      let stays = stays_both (stays_name c1 v x long) (stays_both (stays_becomes c2 u) (stays_past c3 ts (fixed z Semicolon ∷ []) (expr_stays r c3) (stays_semicolon (past c3 ts) z))) in
      ((room, expr_small r c3 (quiet_parts c3 ts (fixed z Semicolon ∷ []) q.1.1.1).0), let_ends c c1 _ locals x turns rest s (let_ops c w) room stays)
  stmt_bounded (of_assign {v = v} {u = u} {x = x} {long = long} {ts = ts} z r) c locals turns rest q e few =
      let c1 = tallied c (tok v (Named x long)) in
      let c2 = tallied c1 (fixed u Becomes) in
      let stays = stays_both (stays_name c v x long) (stays_both (stays_becomes c1 u) (stays_past c2 ts (fixed z Semicolon ∷ []) (expr_stays r c2) (stays_semicolon (past c2 ts) z))) in
      ((few, expr_small r c2 (quiet_parts c2 ts (fixed z Semicolon ∷ []) q.1.1).0), ends_same c _ locals turns rest e few stays.scopes stays.ops)
  stmt_bounded (of_require {w = w} {ts = ts} z r) c locals turns rest q e few =
      let c1 = tallied c (fixed w WordRequire) in
      let stays = stays_both (stays_require c w) (stays_past c1 ts (fixed z Semicolon ∷ []) (expr_stays r c1) (stays_semicolon (past c1 ts) z)) in
      ((few, expr_small r c1 (quiet_parts c1 ts (fixed z Semicolon ∷ []) q.1).0), ends_same c _ locals turns rest e few stays.scopes stays.ops)
  stmt_bounded (of_if {w = w} {ts = ts} {bs = bs} r k) c locals turns rest q e few =
      let c1 = tallied c (fixed w WordIf) in
      let c2 = past c1 ts in
      let parts = quiet_parts c1 ts bs q.1 in
      let inner = expr_stays r c1 in
      let stays = stays_both (stays_if c w) inner in
      let one = block_bounded k c2 locals turns parts.1 (plain_enters c2 locals turns rest (inner.previous (if_plain c w)) (stays.scopes ∙ e) few) in
      ((few, expr_small r c1 parts.0, one.0, tt), rw (past_both c1 ts bs) (ends_same c (past c2 bs) locals turns rest e few (one.1.scopes ∙ stays.scopes) (one.1.ops ∙ stays.ops)))
  stmt_bounded (of_else {w = w} {ts = ts} {bs = bs} {cs = cs} v r k j) c locals turns rest q e few =
      let c1 = tallied c (fixed w WordIf) in
      let c2 = past c1 ts in
      let c3 = past c2 bs in
      let c4 = tallied c3 (fixed v WordElse) in
      let parts = quiet_parts c1 ts (bs ++ fixed v WordElse ∷ cs) q.1 in
      let blocks = quiet_parts c2 bs (fixed v WordElse ∷ cs) parts.1 in
      let inner = expr_stays r c1 in
      let stays = stays_both (stays_if c w) inner in
      let one = block_bounded k c2 locals turns blocks.0 (plain_enters c2 locals turns rest (inner.previous (if_plain c w)) (stays.scopes ∙ e) few) in
      let between = stays_else c3 v in
      let scopes = between.scopes ∙ one.1.scopes ∙ stays.scopes in
      let ops = between.ops ∙ one.1.ops ∙ stays.ops in
      let two = block_bounded j c4 locals turns blocks.1.1 (plain_enters c4 locals turns rest (else_plain c3 v) (scopes ∙ e) few) in (
        (few, expr_small r c1 parts.0, one.0, two.0),
        rw (past_both c1 ts (bs ++ fixed v WordElse ∷ cs), past_both c2 bs (fixed v WordElse ∷ cs))
            (ends_same c (past c4 cs) locals turns rest e few (two.1.scopes ∙ scopes) (two.1.ops ∙ ops)),
      )
  stmt_bounded (of_repeat {w = w} {v = v} {n = n} {bs = bs} k) c locals turns rest q e few =
      let c1 = tallied c (fixed w WordRepeat) in
      let c2 = tallied c1 (tok v (Number n)) in
      let fine = repeat_fine c w v n turns (ap product_in e) q.1.0 in
      let head = repeats c w v n in
      let enters : Enters c2 locals (turns * n) = record {
        product = ap (λ f. f * product_in c2.scopes) head.factor ∙ ap (λ p. n * product_in p) (head.scopes ∙ e) ∙ mul_comm n turns;
        visible = ap locals_in (head.scopes ∙ e);
        few = few;
      } in
      let one = block_bounded k c2 locals (turns * n) q.1.1 enters in
      ((fine.0, fine.1, fine.2, one.0), ends_same c (past c2 bs) locals turns rest e few (one.1.scopes ∙ head.scopes) (one.1.ops ∙ head.ops))

  block_bounded : {ts : List Placed} {ss : Statements} → SpellsBlock ts ss → (c : Tally) (locals : List (List ℕ)) (turns : ℕ) → Quiet c ts → Enters c locals turns
      → AllBounded locals turns ss × Leaves c (past c ts)
  block_bounded (block {w = w} {xs = xs} {ss = ss} z r) c locals turns q enters =
      let c1 = tallied c (fixed w OpenBlock) in
      let scopes : c1.scopes ≡ scope turns (length locals) ∷ c.scopes = open_scopes c w ∙ ap (λ p. scope p (locals_in c.scopes) ∷ c.scopes) enters.product ∙ ap (λ n. scope turns n ∷ c.scopes) enters.visible in
      let one = stmts_bounded r c1 locals turns c.scopes (quiet_parts c1 xs (fixed z CloseBlock ∷ []) q.1).0 scopes enters.few in
      let d = past c1 xs in
      (one.0, rw (past_both c1 xs (fixed z CloseBlock ∷ [])) (record { scopes = close_scopes d z ∙ ap without_first one.1.scopes; ops = close_ops d z ∙ one.1.ops ∙ open_ops c w }))

-- ---- heads

-- what a parameter keeps
record KeepsHead (c d : Tally) : Type 0 where
  scopes : d.scopes ≡ c.scopes
  ops : d.ops ≡ c.ops
  commas : d.commas ≡ c.commas

param_keeps : {ts : List Placed} {p : Param} → SpellsParam ts p → (c : Tally) → KeepsHead c (past c ts)
unfolding tallied
param_keeps of_record c = record { scopes = refl; ops = refl; commas = refl }
param_keeps of_amount c = record { scopes = refl; ops = refl; commas = refl }

comma_keeps : (c : Tally) (w : Extent) → ((tallied c (fixed w Comma)).scopes ≡ c.scopes) × ((tallied c (fixed w Comma)).ops ≡ c.ops) × ((tallied c (fixed w Comma)).commas ≡ c.commas + 1)
unfolding tallied
comma_keeps c w = (refl, refl, refl)

few_commas : (n : ℕ) → nat_le 16 n ≡ false → n < 16
few_commas n h = grind (arith, nat_tests)

name_room : (c : Tally) (w v : Extent) (x : List ℕ) (long : Bool) → passes (tallied c (fixed w Comma)) (tok v (Named x long)) ≡ false → (tallied c (fixed w Comma)).commas < 16
unfolding tallied
name_room c w v x long h = few_commas _ (kept (tallied c (fixed w Comma)) (tok v (Named x long)) h).further

param_room : {ts : List Placed} {p : Param} → SpellsParam ts p → (c : Tally) (w : Extent) → Quiet (tallied c (fixed w Comma)) ts → (tallied c (fixed w Comma)).commas < 16
param_room (of_record {w = v} {x = x} {long = long}) c w q = name_room c w v x long q.0
param_room (of_amount {w = v} {x = x} {long = long}) c w q = name_room c w v x long q.0

-- behind some parameters
record HasParams (c d : Tally) (ps : List Param) : Type 0 where
  scopes : d.scopes ≡ c.scopes
  ops : d.ops ≡ c.ops
  commas : d.commas + 1 ≡ length ps
  few : length ps ≤ 16

params_few : {ts : List Placed} {ps : List Param} → SpellsParams ts ps → (c : Tally) → Quiet c ts → c.commas ≡ 0 → HasParams c (past c ts) ps
params_few (one_param r) c q none = let k = param_keeps r c in record { scopes = k.scopes; ops = k.ops; commas = omega (arith, k.commas, none); few = omega arith }
params_few (more_params {xs = xs} {ys = ys} {ps = ps} {q = p} v rs r) c q none =
    let parts = quiet_parts c xs (fixed v Comma ∷ ys) q in
    let one = params_few rs c parts.0 none in
    let d = past c xs in
    let k = comma_keeps d v in
    let two = param_keeps r (tallied d (fixed v Comma)) in
    let room = param_room r d v parts.1.1 in
    let len = length-append ps (p ∷ []) in
    rw (past_both c xs (fixed v Comma ∷ ys)) (record {
      scopes = two.scopes ∙ k.0 ∙ one.scopes;
      ops = two.ops ∙ k.1 ∙ one.ops;
      commas = omega (arith, two.commas, k.2, one.commas, len);
      few = omega (arith, room, k.2, one.commas, len);
    })

-- behind a head
record Begins (c d : Tally) (h : Head) : Type 0 where
  scopes : d.scopes ≡ c.scopes
  ops : d.ops ≡ c.ops + 1
  previous : d.previous ≡ plain
  params : length h.params ≤ 16

-- the tally behind the parenthesis before the parameters
abbrev opened : Tally → Extent → Extent → Extent → List ℕ → Bool → Tally
opened c w v u x long = tallied (tallied (tallied c (fixed w WordOp)) (tok v (Named x long))) (tok u Open)

opened_keeps : (c : Tally) (w v u : Extent) (x : List ℕ) (long : Bool) → ((opened c w v u x long).scopes ≡ c.scopes) × ((opened c w v u x long).ops ≡ c.ops + 1) × ((opened c w v u x long).commas ≡ 0)
unfolding tallied
opened_keeps c w v u x long = (refl, refl, refl)

closed_keeps : (c : Tally) (w : Extent) → ((tallied c (tok w Close)).scopes ≡ c.scopes) × ((tallied c (tok w Close)).ops ≡ c.ops) × ((tallied c (tok w Close)).previous ≡ plain)
unfolding tallied
closed_keeps c w = (refl, refl, refl)

head_begins : {ts : List Placed} {h : Head} → SpellsHead ts h → (c : Tally) → Quiet c ts → Begins c (past c ts) h
head_begins (without {w = w} {v = v} {u = u} {z = z} {x = x} {long = long}) c q =
    let o = opened_keeps c w v u x long in
    let k = closed_keeps (opened c w v u x long) z in
    record { scopes = k.0 ∙ o.0; ops = k.1 ∙ o.1; previous = k.2; params = omega arith }
head_begins (with {w = w} {v = v} {u = u} {x = x} {long = long} {xs = xs} z rs) c q =
    let d = opened c w v u x long in
    let o = opened_keeps c w v u x long in
    let ps = params_few rs d (quiet_parts d xs (tok z Close ∷ []) q.1.1.1).0 o.2 in
    let k = closed_keeps (past d xs) z in
    rw (past_both d xs (tok z Close ∷ [])) (record { scopes = k.0 ∙ ps.scopes ∙ o.0; ops = k.1 ∙ ps.ops ∙ o.1; previous = k.2; params = ps.few })

op_room : (c : Tally) (w : Extent) → passes c (fixed w WordOp) ≡ false → c.ops < 16
op_room c w h = few_commas _ (kept c (fixed w WordOp) h).op

head_room : {ts : List Placed} {h : Head} → SpellsHead ts h → (c : Tally) → Quiet c ts → c.ops < 16
head_room (without {w = w}) c q = op_room c w q.0
head_room (with {w = w} z rs) c q = op_room c w q.0

-- ---- operations

record OpEnds (c d : Tally) (o : Op) : Type 0 where
  bounded : IsBoundedOp o
  scopes : d.scopes ≡ c.scopes
  ops : d.ops ≡ c.ops + 1
  room : c.ops < 16

op_bounded : {ts : List Placed} {o : Op} → SpellsOp ts o → (c : Tally) → c.scopes ≡ [] → Quiet c ts → OpEnds c (past c ts) o
op_bounded (of_op {hs = hs} {bs = bs} h b) c none q =
    let parts = quiet_parts c hs bs q in
    let begins = head_begins h c parts.0 in
    let d = past c hs in
    let enters : Enters d [] 1 = record {
      product = ap (λ f. factor f * product_in d.scopes) begins.previous ∙ ap (λ s. 1 * product_in s) (begins.scopes ∙ none);
      visible = ap locals_in (begins.scopes ∙ none);
      few = omega arith;
    } in
    let body = block_bounded b d [] 1 parts.1 enters in
    rw (past_both c hs bs) (record {
      bounded = record { params = begins.params; body = body.0 };
      scopes = body.1.scopes ∙ begins.scopes;
      ops = body.1.ops ∙ begins.ops;
      room = head_room h c parts.0;
    })

record OpsEnd (c : Tally) (os : List Op) : Type 0 where
  each : All IsBoundedOp os
  scopes : c.scopes ≡ []
  ops : c.ops ≡ length os
  few : length os ≤ 16

all_one : (o : Op) → IsBoundedOp o → All IsBoundedOp (o ∷ [])
all_one o h = λ k d lt. elim k as (λ k. k < 1 → IsBoundedOp (slice_index_or (o ∷ []) k d)) [ zero ↦ (λ l. h) | suc m ↦ (λ l. absurd (omega arith)) ] lt

ops_bounded : {ts : List Placed} {os : List Op} → SpellsOps ts os → Quiet no_tally ts → OpsEnd (past no_tally ts) os
ops_bounded no_ops q = record { each = λ k d lt. absurd (omega arith); scopes = refl; ops = refl; few = omega arith }
ops_bounded (more_ops {xs = xs} {ys = ys} {os = os} {o = o} rs r) q =
    let parts = quiet_parts no_tally xs ys q in
    let one = ops_bounded rs parts.0 in
    let two = op_bounded r (past no_tally xs) one.scopes parts.1 in
    let len = length-append os (o ∷ []) in
    rw (past_both no_tally xs ys) (record {
      each = All-append IsBoundedOp os (o ∷ []) one.each (all_one o two.bounded);
      scopes = two.scopes ∙ one.scopes;
      ops = omega (arith, two.ops, one.ops, len);
      few = omega (arith, two.room, one.ops, len);
    })

pub operations_bounded : (ts : List Placed) (os : List Op) → SpellsContract ts os → IsWithinLimits ts → AreBounded os
operations_bounded ts os r h = let all = ops_bounded r.0 (quiet_within ts h) in record { count = all.few; each = all.each }
